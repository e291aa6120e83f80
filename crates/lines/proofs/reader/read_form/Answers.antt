use Rattle.std.proofs.Common.{◌≡◌, ◌-◌, length, drop, Ok, sym, ap, ◌∙◌, rules}
use Rattle.std.proofs.lemmas.Result.{err_from_is_err_and}
use Rattle.bus.specs.Refusals.{told}
use Rattle.lines.specs.declared.shape.Stage.TheVariants.{Opening}
use Rattle.lines.specs.Shapes.{misplaced}
use Rattle.lines.specs.Parts.{parts, left, last_place}
use Rattle.lines.specs.Forms.{kinds, misfit, behind}
use Rattle.lines.specs.Reading.{unless, bad_sign, bad_item, items_read, reading, word_read}
use Rattle.lines.proofs.Lawful.{reads}
use Rattle.lines.proofs.Order.{none_found, fault_found, by_parts, parts_known}
use Rattle.lines.proofs.reader.read_form.Goals as goal
use Rattle.lines.proofs.reader.read_form.Goals.{In_ok-word}

-- what the line says, once its word is known
after_word : (c : In_ok-word) → let rest = c.word.new.self in let word = c.in_ok-word.word in reading c.args.line.now ≡ unless bad_item (misfit (last_place rest) (kinds word) (left rest)) (items_read word (left rest))
after_word c =
    let line = c.args.line.now in
    let rest = c.word.new.self in
    let word = c.in_ok-word.word in
    let gave = c.in_ok-word.ensures in
    let value = gave.value in
    let next = gave.after in
    let same = gave.same in
    let shape = none_found bad_sign (misplaced Opening 0 line) tt c.in_ok-check_shape.ensures in
    let found : word_read (parts 1 (drop 1 line)) ≡ Ok word = cc in
    let items : behind (parts 1 (drop 1 line)) ≡ left rest = cc in
    let end : length line - 1 ≡ last_place rest = cc in
    by_parts line shape
    ∙ parts_known (parts 1 (drop 1 line)) (length line - 1) word found
    ∙ (λ i. unless bad_item (misfit (end i) (kinds word) (items i)) (items_read word (items i)))

pub read_items-requires : goal.read_items-requires
read_items-requires c =
    let rest = c.word.new.self in
    none_found bad_item (misfit (last_place rest) (kinds c.in_ok-word.word) (left rest)) tt c.in_ok-check_items.ensures

pub returns-in_err-check_shape : goal.returns-in_err-check_shape
returns-in_err-check_shape c = reads c.args.line.now c.from_residual.result (search rules)

pub returns-in_err-word : goal.returns-in_err-word
returns-in_err-word c = reads c.args.line.now c.from_residual-in_err-word.result (search rules)

pub returns-in_err-check_items : goal.returns-in_err-check_items
returns-in_err-check_items c =
    let p = err_from_is_err_and c.from_residual-in_err-check_items.result c.from_residual-in_err-check_items.ensures.1 in
    let rest = c.word.new.self in
    let word = c.in_ok-word.word in
    reads c.args.line.now c.from_residual-in_err-check_items.result (rw (p.1, p.2)
    (fault_found bad_item (misfit (last_place rest) (kinds word) (left rest)) tt (items_read word (left rest)) (told c.in_err-check_items.field-0.0) c.in_err-check_items.ensures
    ∙ sym (after_word (goal.at.returns-in_err-check_items c).In_ok-word)))

pub returns : goal.returns
returns c =
    let rest = c.word.new.self in
    let word = c.in_ok-word.word in
    let found = misfit (last_place rest) (kinds word) (left rest) in
    let fits = none_found bad_item found tt c.in_ok-check_items.ensures in
    let gone : unless bad_item found (items_read word (left rest)) ≡ items_read word (left rest) = ap (λ o. unless bad_item o (items_read word (left rest))) fits in
    let told = after_word (goal.at.returns c).In_ok-word in
    reads c.args.line.now c.read_items.result (◌∙◌ {b = items_read c.in_ok-word.word (left c.word.new.self)} c.read_items.ensures (sym (told ∙ gone)))
