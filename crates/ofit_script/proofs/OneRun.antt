-- The lines of a script run in one way.
use Rattle.std.proofs.Common.{◌≡◌, ◌∙◌, ◌+◌, ◌≤◌, ◌++◌, ◌⊎◌, ℕ, List, [], ◌∷◌, length, inl, inr, refl, sym, ap, ap₂, subst, arith, append-nil, append_assoc}
use Rattle.std.specs.Prelude.{Contains}
use Rattle.ofit_fit.proofs.Fitted.{one_count}
use Rattle.ofit_fit.proofs.OneOrder.{one_order}
use Rattle.ofit_num.proofs.Members.{cons_first, Contains-cons}
use Rattle.ofit_num.specs.Tally.{Counts}
use Rattle.ofit_order.proofs.Increasing.{increasing_same}
use Rattle.ofit_order.specs.Relation.{Relation}
use Rattle.ofit_report.proofs.StudyReport.{one_study_report}
use Rattle.ofit_study.specs.declared.edit.Edit.{Edit}
use Rattle.ofit_study.specs.declared.fault.EditFault.{EditFault}
use Rattle.ofit_study.specs.Counted.{HasComponentCount}
use Rattle.ofit_study.specs.Edited.{touched}
use Rattle.ofit_study.specs.Study.{Study, problem_stated}
use Rattle.ofit_session.specs.Refit.{AreHolding, IsRefit}
use Rattle.ofit_script.specs.declared.line.Line.{Line}
use Rattle.ofit_script.specs.declared.line.Line.TheVariants.{Change, Report, Sheet}
use Rattle.ofit_script.specs.LineText.{refitted_text, refused_text, report_text}
use Rattle.ofit_script.specs.ScriptGives.{LineGives, PrintsReport, ScriptFits, ScriptGives, TakesEdit}
use Rattle.ofit_script.specs.Runs.{BeginsNext, CountsLine, RanInPart}
use Rattle.ofit_script.proofs.Outcomes.{not_refused, one_after, one_refusal}
use Rattle.ofit_script.proofs.RowParts.{AreRising, rising_after}

-- so many components are fitted
pub one_refit : (s : Study) (edit : Edit) (after : Study) (n m : ℕ) → IsRefit s edit after n → IsRefit s edit after m → n ≡ m
one_refit s edit after n m h k =
    let order : k.order ≡ h.order = one_order (problem_stated after) k.order h.order k.of h.of in
    let holding : AreHolding h.order after (touched s edit) k.components = subst (λ (o : Relation). AreHolding o after (touched s edit) k.components) order k.holding in
    let same : h.components ≡ k.components =
    increasing_same h.components k.components h.holding.rising holding.rising (λ p c. (holding.exact p).1 ((h.holding.exact p).0 c)) (λ p c. (h.holding.exact p).1 ((holding.exact p).0 c)) in
    h.count ∙ ap length same ∙ sym k.count

-- the study and the fits after a line or more
pub record SameEnd (a b : Study) (n m : ℕ) : Type 0 where
  pub study : a ≡ b
  pub fits : n ≡ m

pub line_end : (r : ℕ) (s : Study) → AreRising s.rows → (line : Line) (a b : Study) (t u : List ℕ) (n m : ℕ) → LineGives r s line a t n → LineGives r s line b u m → SameEnd a b n m
line_end r s rising (Change edit) a b t u n m (inl h) (inl k) =
    let after : b ≡ a = one_after s rising edit b a k.edited h.edited in
    record { study = sym after; fits = one_refit s edit a n m h.refitted (subst (λ (x : Study). IsRefit s edit x m) after k.refitted) }
line_end r s rising (Change edit) a b t u n m (inl h) (inr k) = absurd (not_refused s rising edit a k.fault h.edited k.refused)
line_end r s rising (Change edit) a b t u n m (inr h) (inl k) = absurd (not_refused s rising edit b h.fault k.edited h.refused)
line_end r s rising (Change edit) a b t u n m (inr h) (inr k) = record { study = h.stays ∙ sym k.stays; fits = h.none ∙ sym k.none }
line_end r s rising Report a b t u n m h k = record { study = h.stays ∙ sym k.stays; fits = h.none ∙ sym k.none }
line_end r s rising Sheet a b t u n m h k = record { study = h.stays ∙ sym k.stays; fits = h.none ∙ sym k.none }

taken_text : (r : ℕ) (s : Study) → AreRising s.rows → (edit : Edit) (a b : Study) (t u : List ℕ) (n m : ℕ) → TakesEdit r s edit a t n → TakesEdit r s edit b u m → t ≡ u
taken_text r s rising edit a b t u n m h k =
    let after : b ≡ a = one_after s rising edit b a k.edited h.edited in
    let fits : n ≡ m = one_refit s edit a n m h.refitted (subst (λ (x : Study). IsRefit s edit x m) after k.refitted) in
    let components : h.components ≡ k.components = one_count (problem_stated a) h.components k.components h.are_all (subst (λ (x : Study). HasComponentCount (problem_stated x) k.components) after k.are_all) in
    h.printed ∙ ap₂ (λ (i j : ℕ). refitted_text r i j) fits components ∙ sym k.printed

reported_text : (r : ℕ) (s a b : Study) (t u : List ℕ) (n m : ℕ) → PrintsReport r s a t n → PrintsReport r s b u m → t ≡ u
reported_text r s a b t u n m h k = h.printed ∙ ap (report_text r) (one_study_report s h.report k.report h.is_report k.is_report) ∙ sym k.printed

line_text : (r : ℕ) (s : Study) → AreRising s.rows → (line : Line) (a b : Study) (t u : List ℕ) (n m : ℕ) → (line ≡ Sheet → ⊥) → LineGives r s line a t n → LineGives r s line b u m → t ≡ u
line_text r s rising (Change edit) a b t u n m other (inl h) (inl k) = taken_text r s rising edit a b t u n m h k
line_text r s rising (Change edit) a b t u n m other (inl h) (inr k) = absurd (not_refused s rising edit a k.fault h.edited k.refused)
line_text r s rising (Change edit) a b t u n m other (inr h) (inl k) = absurd (not_refused s rising edit b h.fault k.edited h.refused)
line_text r s rising (Change edit) a b t u n m other (inr h) (inr k) = h.printed ∙ ap (λ (f : EditFault). refused_text r f) (one_refusal s rising edit h.fault k.fault h.refused k.refused) ∙ sym k.printed
line_text r s rising Report a b t u n m other h k = reported_text r s a b t u n m h k
line_text r s rising Sheet a b t u n m other h k = absurd (other refl)

-- rows rise behind a line
line_rising : (r : ℕ) (s : Study) → AreRising s.rows → (line : Line) (a : Study) (t : List ℕ) (n : ℕ) → LineGives r s line a t n → AreRising a.rows
line_rising r s rising (Change edit) a t n (inl h) = rising_after s edit a rising h.edited.1
line_rising r s rising (Change edit) a t n (inr h) = subst (λ (x : Study). AreRising x.rows) (sym h.stays) rising
line_rising r s rising Report a t n h = subst (λ (x : Study). AreRising x.rows) (sym h.stays) rising
line_rising r s rising Sheet a t n h = subst (λ (x : Study). AreRising x.rows) (sym h.stays) rising

script_rising : (lines : List Line) (r : ℕ) (s : Study) → AreRising s.rows → (a : Study) (t : List ℕ) (n : ℕ) → ScriptGives r s lines a t n → AreRising a.rows
script_rising [] r s rising a t n h = subst (λ (x : Study). AreRising x.rows) (sym h.stays) rising
script_rising (line ∷ lines) r s rising a t n h = script_rising lines (r + 1) h.between (line_rising r s rising line h.between h.head h.head_fits h.first) a h.tail h.tail_fits h.rest

pub script_end : (lines : List Line) (r : ℕ) (s : Study) → AreRising s.rows → (a b : Study) (t u : List ℕ) (n m : ℕ) → ScriptGives r s lines a t n → ScriptGives r s lines b u m → SameEnd a b n m
script_end [] r s rising a b t u n m h k = record { study = h.stays ∙ sym k.stays; fits = h.none ∙ sym k.none }
script_end (line ∷ lines) r s rising a b t u n m h k =
    let first = line_end r s rising line h.between k.between h.head k.head h.head_fits k.head_fits h.first k.first in
    let moved : ScriptGives (r + 1) h.between lines b k.tail k.tail_fits = subst (λ (x : Study). ScriptGives (r + 1) x lines b k.tail k.tail_fits) (sym first.study) k.rest in
    let rest = script_end lines (r + 1) h.between (line_rising r s rising line h.between h.head h.head_fits h.first) a b h.tail k.tail h.tail_fits k.tail_fits h.rest moved in
    record { study = rest.study; fits = h.fits_are ∙ ap₂ (λ (i j : ℕ). i + j) first.fits rest.fits ∙ sym k.fits_are }

pub script_text : (lines : List Line) (r : ℕ) (s : Study) → AreRising s.rows → (a b : Study) (t u : List ℕ) (n m : ℕ) → (Contains lines Sheet → ⊥) → ScriptGives r s lines a t n → ScriptGives r s lines b u m → t ≡ u
script_text [] r s rising a b t u n m other h k = h.silent ∙ sym k.silent
script_text (line ∷ lines) r s rising a b t u n m other h k =
    let first = line_end r s rising line h.between k.between h.head k.head h.head_fits k.head_fits h.first k.first in
    let moved : ScriptGives (r + 1) h.between lines b k.tail k.tail_fits = subst (λ (x : Study). ScriptGives (r + 1) x lines b k.tail k.tail_fits) (sym first.study) k.rest in
    let head : h.head ≡ k.head =
    line_text r s rising line h.between k.between h.head k.head h.head_fits k.head_fits (λ e. other (subst (Contains (line ∷ lines)) e (cons_first lines line))) h.first k.first in
    let tail : h.tail ≡ k.tail =
    script_text lines (r + 1) h.between (line_rising r s rising line h.between h.head h.head_fits h.first) a b h.tail k.tail h.tail_fits k.tail_fits (λ c. other (Contains-cons line lines Sheet c)) h.rest moved in
    h.text_is ∙ ap₂ (λ (x y : List ℕ). x ++ y) head tail ∙ sym k.text_is

-- a line more
pub run_more : (ran : List Line) (r : ℕ) (s : Study) (line : Line) (mid after : Study) (t u : List ℕ) (n m : ℕ) → ScriptGives r s ran mid t n → LineGives (r + length ran) mid line after u m
    → ScriptGives r s (ran ++ line ∷ []) after (t ++ u) (n + m)
run_more [] r s line mid after t u n m h l =
    let here : r + 0 ≡ r = omega arith in
    let first : LineGives r s line after u m = subst (λ (x : Study). LineGives r x line after u m) h.stays (subst (λ (k : ℕ). LineGives k mid line after u m) here l) in
    record {
      between = after;
      head = u;
      tail = [];
      head_fits = m;
      tail_fits = 0;
      first = first;
      rest = record { stays = refl; silent = refl; none = refl };
      text_is = ap (λ (x : List ℕ). x ++ u) h.silent ∙ sym (append-nil u);
      fits_are = omega (arith, h.none);
    }
run_more (x ∷ ran) r s line mid after t u n m h l =
    let next : r + length (x ∷ ran) ≡ (r + 1) + length ran = omega arith in
    record {
      between = h.between;
      head = h.head;
      tail = h.tail ++ u;
      head_fits = h.head_fits;
      tail_fits = h.tail_fits + m;
      first = h.first;
      rest = run_more ran (r + 1) h.between line mid after h.tail u h.tail_fits m h.rest (subst (λ (k : ℕ). LineGives k mid line after u m) next l);
      text_is = ap (λ (y : List ℕ). y ++ u) h.text_is ∙ append_assoc h.head h.tail u;
      fits_are = omega (arith, h.fits_are);
    }

-- a run in two parts
record InParts (r : ℕ) (s : Study) (ran left : List Line) (after : Study) (n : ℕ) : Type 0 where
  middle : Study
  text : List ℕ
  fits : ℕ
  gives : ScriptGives r s ran middle text fits
  later : ℕ
  left_text : List ℕ
  left_fits : ℕ
  left_gives : ScriptGives later middle left after left_text left_fits
  fits_are : n ≡ fits + left_fits

in_parts : (ran left : List Line) (r : ℕ) (s after : Study) (t : List ℕ) (n : ℕ) → ScriptGives r s (ran ++ left) after t n → InParts r s ran left after n
in_parts [] left r s after t n h = record {
  middle = s;
  text = [];
  fits = 0;
  gives = record { stays = refl; silent = refl; none = refl };
  later = r;
  left_text = t;
  left_fits = n;
  left_gives = h;
  fits_are = omega arith;
}
in_parts (x ∷ ran) left r s after t n h =
    let p = in_parts ran left (r + 1) h.between after h.tail h.tail_fits h.rest in
    record {
      middle = p.middle;
      text = h.head ++ p.text;
      fits = h.head_fits + p.fits;
      gives = record { between = h.between; head = h.head; tail = p.text; head_fits = h.head_fits; tail_fits = p.fits; first = h.first; rest = p.gives; text_is = refl; fits_are = refl };
      later = p.later;
      left_text = p.left_text;
      left_fits = p.left_fits;
      left_gives = p.left_gives;
      fits_are = omega (arith, h.fits_are, p.fits_are);
    }

-- what is counted in a line is at most its fits
line_within : (r : ℕ) (s : Study) → AreRising s.rows → (line : Line) (a : Study) (t : List ℕ) (n : ℕ) (counts counted : Counts) → CountsLine s line counts counted → LineGives r s line a t n → counted.fits ≤ counts.fits + n
line_within r s rising (Change edit) a t n counts counted (inl e) h = omega (arith, ap (λ (c : Counts). c.fits) e)
line_within r s rising (Change edit) a t n counts counted (inr (after, k, edited, refit, most)) (inl h) =
    let same : after ≡ a = one_after s rising edit after a edited h.edited in
    omega (arith, most, one_refit s edit a k n (subst (λ (x : Study). IsRefit s edit x k) same refit) h.refitted)
line_within r s rising (Change edit) a t n counts counted (inr (after, k, edited, refit, most)) (inr h) = absurd (not_refused s rising edit after h.fault edited h.refused)
line_within r s rising Report a t n counts counted e h = omega (arith, ap (λ (c : Counts). c.fits) e)
line_within r s rising Sheet a t n counts counted e h = omega (arith, ap (λ (c : Counts). c.fits) e)

next_within : (r : ℕ) (s : Study) → AreRising s.rows → (left : List Line) (a : Study) (t : List ℕ) (n : ℕ) (counts counted : Counts) → (counted ≡ counts) ⊎ BeginsNext s left counts counted → ScriptGives r s left a t n → counted.fits ≤ counts.fits + n
next_within r s rising left a t n counts counted (inl e) h = omega (arith, ap (λ (c : Counts). c.fits) e)
next_within r s rising left a t n counts counted (inr b) h = go (subst (λ (x : List Line). ScriptGives r s x a t n) b.is h)
  where
    go : ScriptGives r s (b.line ∷ b.rest) a t n → counted.fits ≤ counts.fits + n
    go k = omega (arith, line_within r s rising b.line k.between k.head k.head_fits counts counted b.most k.first, k.fits_are)

-- what is counted in a part of a script is at most its fits
pub part_within : (s : Study) → AreRising s.rows → (lines : List Line) (now : Study) (counts counted : Counts) → RanInPart s lines now counts counted → (n : ℕ) → ScriptFits s lines n → counted.fits ≤ counts.fits + n
part_within s rising lines now counts counted p n (after, t, h) =
    let parts = in_parts p.ran p.left 1 s after t n (subst (λ (x : List Line). ScriptGives 1 s x after t n) p.parted h) in
    let ends = script_end p.ran 1 s rising parts.middle now parts.text p.text parts.fits p.fits parts.gives p.gives in
    let left : ScriptGives parts.later now p.left after parts.left_text parts.left_fits = subst (λ (x : Study). ScriptGives parts.later x p.left after parts.left_text parts.left_fits) ends.study parts.left_gives in
    omega (
      arith,
      next_within parts.later now (script_rising p.ran 1 s rising now p.text p.fits p.gives) p.left after parts.left_text parts.left_fits p.middle counted p.next left,
      p.counts_are,
      ends.fits,
      parts.fits_are,
    )
