use Rattle.std.proofs.Common.{◌≡◌, ◌∙◌, ◌++◌, List, ℕ, refl, ap, subst}
use Rattle.std.proofs.lemmas.Result.{on_ok_weaker}
use Rattle.ofit_sheet.specs.SheetText as sheet
use Rattle.ofit_study.specs.Study.{Study, names_of}
use Rattle.ofit_script.specs.LineText.{sheet_text}
use Rattle.ofit_script.proofs.Printed.{is_fit, sheeted}
use Rattle.ofit_script.proofs.print.append_sheet.Goals as goal

pub returns-clause-ok : goal.returns-clause-ok
returns-clause-ok c =
    let s = c.args.session.now.study in
    let x = c.in_ok-sheet.sheet in
    let kept = c.settings-settings.ensures.kept in
    let printed : c.in_ok-text.text.items ≡ sheet.sheet_text (names_of s) x = subst (λ (t : Study). c.in_ok-text.text.items ≡ sheet.sheet_text (names_of t) x) c.study.ensures.study c.in_ok-text.ensures in
    on_ok_weaker c.append_all.result
    (λ e. (
      sheet_text c.args.number c.in_ok-text.text.items,
      record {
        sheet = c.in_ok-text.text.items;
        is_fit = is_fit s c.in_ok-text.text.items x c.args.session.now.values c.in_ok-sheet.ensures.sized c.in_ok-sheet.ensures.fits kept printed (c.sheets_are_read_back.ensures (names_of s) x c.in_ok-sheet.ensures.fits kept)
            c.in_ok-sheet.ensures.passes c.in_ok-sheet.ensures.values c.study.ensures.fit;
        stays = refl;
        none = refl;
        printed = refl;
      },
      e ∙ ap (λ (t : List ℕ). c.args.into.now.items ++ t) (sheeted c.args.number c.as_bytes.result.now c.as_slice.result.now c.in_ok-text.text.items (c.as_bytes.ensures.value ∙ c.format.ensures.text) c.as_slice.ensures.value),
    )) c.append_all.ensures.ok
