-- An answer that is the definition's keeps the laws of reading. Assumes nothing.
use Rattle.std.proofs.Common.{◌≡◌, ℕ, List, Result, sym, ap, ◌∙◌}
use Rattle.bus.specs.declared.refusal.Refusal.{Refusal}
use Rattle.bus.specs.Refusals.{answered}
use Rattle.lines.specs.declared.form.Form.{Form}
use Rattle.lines.specs.Reading.{reading}
use Rattle.lines.specs.Laws.{Reads}
use Rattle.lines.proofs.Walks.{first_bad}
use Rattle.lines.proofs.Returns.{bad_sign_found, shaped_else, answered_bad_sign, answered_ok, fits_no_bad_item, bad_number_fits, spelled_back, spelling_read}
use Rattle.lines.proofs.Places.{bad_item_at, bad_number_at}

pub reads : (line : List ℕ) (r : Result Form Refusal) → answered r ≡ reading line → Reads line r
reads line r is =
    record {
      value = is;
      bad_sign = λ place e. first_bad line place (bad_sign_found line place (sym is ∙ ap answered e));
      shaped = λ none. shaped_else line (λ place e. none place (answered_bad_sign r place (is ∙ e)));
      bad_item = λ place e fits. fits_no_bad_item line place fits (sym is ∙ ap answered e);
      bad_item_at = λ place e. bad_item_at line place (sym is ∙ ap answered e);
      bad_number = λ place e. bad_number_fits line place (sym is ∙ ap answered e);
      bad_number_at = λ place e. bad_number_at line place (sym is ∙ ap answered e);
      spelled = λ f e. spelled_back line f (sym is ∙ ap answered e);
      read_back = λ f h e. answered_ok r f (is ∙ ap reading (sym e) ∙ spelling_read f h);
    }
