use Rattle.std.proofs.Common.{◌≡◌, ◌≤◌, Bool, false, ℕ, None, inl, inr, refl, sym, ap, ◌∙◌, arith}
use Rattle.std.proofs.Math.Path.{fun_ext}
use Rattle.std.proofs.lemmas.List.{get_or_past}
use Rattle.std.proofs.lemmas.Bool.{cases_lt}
use Rattle.bus.specs.Rows.{member}
use Rattle.bus.proofs.Words.{no_member_past}
use Rattle.engine.specs.Cycle.{scheduled}
use Rattle.engine.specs.Held.{slots, rules_of, word_below}
use Rattle.engine.proofs.WaitingRows.{member_word, word_fits}
use Rattle.engine.proofs.Fits.{none_scheduled, closed_is_cycle, word_is_schedule, lowest_is_late}
use Rattle.engine.proofs.WindowSum.{window_kept}
use Rattle.engine.proofs.row_by_row.cycle.run_cycle.Goals as goal

-- the word of a test that no row above 31 passes has exactly the rows that pass
same_rows : (test : ℕ → Bool) (word : ℕ) → word ≡ word_below 32 test → ((r : ℕ) → 32 ≤ r → test r ≡ false) → (r : ℕ) → member word r ≡ test r
unfolding word_below
same_rows test word is past r =
    ap (λ w. member w r) is
    ∙ elim (cases_lt r 32) [
      | inl h ↦ member_word test 32 r h
      | inr h ↦ no_member_past (word_below 32 test) 32 r (word_fits test 32) h ∙ sym (past r h)
    ]

pub returns : goal.returns
returns g c =
    let rules = rules_of (g.P.Policy.goes c.args.policy.now) c.args.window in
    let before = slots c.args.rows.now in
    let between = slots c.release.new.rows in
    let test = scheduled rules between in
    let word = c.schedule-schedule.result.word in
    let same : member word ≡ test = fun_ext (same_rows test word c.schedule-schedule.ensures (λ r past. none_scheduled rules between r (get_or_past c.release.new.rows r None (omega arith)))) in
    record {
      after = closed_is_cycle rules before between (member word) c.release.ensures same c.close-late.ensures.after;
      word = word_is_schedule rules before between test c.release.ensures refl c.schedule-schedule.ensures;
      late = lowest_is_late rules before between (member word) c.release.ensures same c.close-late.ensures.late;
      within = window_kept rules (g.met.P.Policy.lawful c.args.policy.now) before;
    }
