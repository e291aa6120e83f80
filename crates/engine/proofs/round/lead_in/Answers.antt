use Rattle.std.proofs.Common.{◌≡◌, ℕ, zero, suc, ◌≤◌, List, Option, None, max, length, get_or, take, refl, sym, ap, ◌∙◌, arith, rules}
use Rattle.std.specs.List.{fold}
use Rattle.std.proofs.lemmas.List.Sums.{fold-append}
use Rattle.std.proofs.lemmas.List.{take_all}
use Rattle.std.proofs.Math.Seq.{take-suc}
use Rattle.engine.specs.declared.row.Row.{Row}
use Rattle.engine.specs.Rehearsal.{lead_in, wait_of}
use Rattle.engine.specs.Held.{slots}
use Rattle.engine.proofs.round.lead_in.Goals as goal

abbrev greatest : List (Option Row) → ℕ
greatest = fold (λ a slot. max a (wait_of slot)) 0

first : (n : ℕ) (rows : List (Option Row)) → n ≤ length rows → greatest (take n rows) ≡ lead_in n (slots rows)
unfolding lead_in
first zero rows h = refl
first (suc n) rows h = rw (take-suc rows n None, fold-append) (ap (λ m. max m (wait_of (get_or rows n None))) (first n rows (omega arith)))

pub returns : goal.returns
returns c =
    let rows = c.args.rows.now in
    let whole : c.fold.result ≡ greatest rows = search rules in
    whole ∙ ap greatest (sym (take_all 32 rows (omega arith))) ∙ first 32 rows (omega arith)
