-- Commands, losses, shapes, orders and bounds have texts of their own.
use Rattle.std.proofs.Common.{◌≡◌, ℕ, ◌+◌, List, [], ◌∷◌, length, refl, sym, ap, ◌∙◌, cond}
use Rattle.std.proofs.Math.Dec.{eqb}
use Rattle.std.proofs.lemmas.List.{append_cancel_left}
use Rattle.std.specs.Prelude.{codes, ℤ, Option, Some, None}
use Rattle.ofit_num.proofs.Names.{own_name}
use Rattle.ofit_num.proofs.Numerals.{IsWhole-number}
use Rattle.ofit_num.proofs.DecimalTexts.{one_number}
use Rattle.ofit_study.specs.declared.loss.LossKind.{LossKind}
use Rattle.ofit_study.proofs.LossTexts.{one_name}
use Rattle.ofit_study.specs.declared.pattern.Pattern.TheVariants as pattern
use Rattle.ofit_words.specs.declared.command.Command.{Command}
use Rattle.ofit_words.specs.declared.command.Command.TheVariants.{Fit, Report, Verify, Session, Unimodal, VerifyUnimodal, Levels, Sample}
use Rattle.ofit_words.specs.declared.job.OrderChoice.{OrderChoice}
use Rattle.ofit_words.specs.declared.job.OrderChoice.TheVariants.{Shaped, File}
use Rattle.ofit_words.specs.declared.job.Kind.{Kind}
use Rattle.ofit_words.specs.declared.job.Kind.TheVariants as kind
use Rattle.ofit_words.specs.Commands.{command_name}
use Rattle.ofit_words.specs.Values.{IsNumberIn, IsListedLoss, IsKind, IsBound, IsOrder}
use Rattle.ofit_words.proofs.Settled.{apart0}

-- no two names agree in the sum of their first byte and the count of the others
abbrev mark : List ℕ → ℕ
mark [] = 0
mark (b ∷ bs) = b + length bs

abbrev marked : ℕ → Command
marked n = cond (eqb n 104) Fit (cond (eqb n 119) Report (cond (eqb n 123) Verify (cond (eqb n 121) Session (cond (eqb n 124) Unimodal (cond (eqb n 132) VerifyUnimodal (cond (eqb n 113) Levels Sample))))))

back : (c : Command) → marked (mark (command_name c)) ≡ c
back Fit = refl
back Report = refl
back Verify = refl
back Session = refl
back Unimodal = refl
back VerifyUnimodal = refl
back Levels = refl
back Sample = refl

pub one_command : (c d : Command) → command_name c ≡ command_name d → c ≡ d
one_command = own_name command_name (λ (t : List ℕ). marked (mark t)) back

pub one_whole : (low high : ℕ) (value : List ℕ) (m n : ℕ) → IsNumberIn low high value m → IsNumberIn low high value n → m ≡ n
one_whole low high value m n h k = IsWhole-number value m n h.is_whole k.is_whole

pub one_loss : (value : List ℕ) (x y : LossKind) → IsListedLoss value x → IsListedLoss value y → x ≡ y
one_loss value x y h k = one_name value x y h.0 k.0

pub one_kind : (value : List ℕ) (x y : Kind) → IsKind value x → IsKind value y → x ≡ y
one_kind value kind.Chain kind.Chain h k = refl
one_kind value kind.Chain kind.Umbrella h k = absurd (apart0 _ _ _ _ refl (sym h ∙ k))
one_kind value kind.Chain kind.Tree h k = absurd (apart0 _ _ _ _ refl (sym h ∙ k))
one_kind value kind.Chain kind.General h k = absurd (apart0 _ _ _ _ refl (sym h ∙ k))
one_kind value kind.Umbrella kind.Chain h k = absurd (apart0 _ _ _ _ refl (sym h ∙ k))
one_kind value kind.Umbrella kind.Umbrella h k = refl
one_kind value kind.Umbrella kind.Tree h k = absurd (apart0 _ _ _ _ refl (sym h ∙ k))
one_kind value kind.Umbrella kind.General h k = absurd (apart0 _ _ _ _ refl (sym h ∙ k))
one_kind value kind.Tree kind.Chain h k = absurd (apart0 _ _ _ _ refl (sym h ∙ k))
one_kind value kind.Tree kind.Umbrella h k = absurd (apart0 _ _ _ _ refl (sym h ∙ k))
one_kind value kind.Tree kind.Tree h k = refl
one_kind value kind.Tree kind.General h k = absurd (apart0 _ _ _ _ refl (sym h ∙ k))
one_kind value kind.General kind.Chain h k = absurd (apart0 _ _ _ _ refl (sym h ∙ k))
one_kind value kind.General kind.Umbrella h k = absurd (apart0 _ _ _ _ refl (sym h ∙ k))
one_kind value kind.General kind.Tree h k = absurd (apart0 _ _ _ _ refl (sym h ∙ k))
one_kind value kind.General kind.General h k = refl

pub one_bound : (places : ℕ) (value : List ℕ) (x y : Option ℤ) → IsBound places value x → IsBound places value y → x ≡ y
one_bound places value None y h k = absurd h
one_bound places value (Some x) None h k = absurd k
one_bound places value (Some x) (Some y) h k = ap Some (one_number value places x y h.0 k.0)

pub one_order : (value : List ℕ) (x y : OrderChoice) → IsOrder value x → IsOrder value y → x ≡ y
one_order value (Shaped pattern.NoPairs) (Shaped pattern.NoPairs) h k = refl
one_order value (Shaped pattern.NoPairs) (Shaped pattern.Chain) h k = absurd (apart0 _ _ _ _ refl (sym h ∙ k))
one_order value (Shaped pattern.NoPairs) (Shaped (pattern.Umbrella t)) h k = absurd (apart0 _ _ _ _ refl (sym h ∙ k.0))
one_order value (Shaped pattern.NoPairs) (Shaped (pattern.Tree t)) h k = absurd (apart0 _ _ _ _ refl (sym h ∙ k.0))
one_order value (Shaped pattern.NoPairs) (File t) h k = absurd (apart0 _ _ _ _ refl (sym h ∙ k.0))
one_order value (Shaped pattern.Chain) (Shaped pattern.NoPairs) h k = absurd (apart0 _ _ _ _ refl (sym h ∙ k))
one_order value (Shaped pattern.Chain) (Shaped pattern.Chain) h k = refl
one_order value (Shaped pattern.Chain) (Shaped (pattern.Umbrella t)) h k = absurd (apart0 _ _ _ _ refl (sym h ∙ k.0))
one_order value (Shaped pattern.Chain) (Shaped (pattern.Tree t)) h k = absurd (apart0 _ _ _ _ refl (sym h ∙ k.0))
one_order value (Shaped pattern.Chain) (File t) h k = absurd (apart0 _ _ _ _ refl (sym h ∙ k.0))
one_order value (Shaped (pattern.Umbrella s)) (Shaped pattern.NoPairs) h k = absurd (apart0 _ _ _ _ refl (sym h.0 ∙ k))
one_order value (Shaped (pattern.Umbrella s)) (Shaped pattern.Chain) h k = absurd (apart0 _ _ _ _ refl (sym h.0 ∙ k))
one_order value (Shaped (pattern.Umbrella s)) (Shaped (pattern.Umbrella t)) h k = ap (λ (t : List ℕ). Shaped (pattern.Umbrella t)) (append_cancel_left (codes "umbrella:") s t (sym h.0 ∙ k.0))
one_order value (Shaped (pattern.Umbrella s)) (Shaped (pattern.Tree t)) h k = absurd (apart0 _ _ _ _ refl (sym h.0 ∙ k.0))
one_order value (Shaped (pattern.Umbrella s)) (File t) h k = absurd (apart0 _ _ _ _ refl (sym h.0 ∙ k.0))
one_order value (Shaped (pattern.Tree s)) (Shaped pattern.NoPairs) h k = absurd (apart0 _ _ _ _ refl (sym h.0 ∙ k))
one_order value (Shaped (pattern.Tree s)) (Shaped pattern.Chain) h k = absurd (apart0 _ _ _ _ refl (sym h.0 ∙ k))
one_order value (Shaped (pattern.Tree s)) (Shaped (pattern.Umbrella t)) h k = absurd (apart0 _ _ _ _ refl (sym h.0 ∙ k.0))
one_order value (Shaped (pattern.Tree s)) (Shaped (pattern.Tree t)) h k = ap (λ (t : List ℕ). Shaped (pattern.Tree t)) (append_cancel_left (codes "tree:") s t (sym h.0 ∙ k.0))
one_order value (Shaped (pattern.Tree s)) (File t) h k = absurd (apart0 _ _ _ _ refl (sym h.0 ∙ k.0))
one_order value (File s) (Shaped pattern.NoPairs) h k = absurd (apart0 _ _ _ _ refl (sym h.0 ∙ k))
one_order value (File s) (Shaped pattern.Chain) h k = absurd (apart0 _ _ _ _ refl (sym h.0 ∙ k))
one_order value (File s) (Shaped (pattern.Umbrella t)) h k = absurd (apart0 _ _ _ _ refl (sym h.0 ∙ k.0))
one_order value (File s) (Shaped (pattern.Tree t)) h k = absurd (apart0 _ _ _ _ refl (sym h.0 ∙ k.0))
one_order value (File s) (File t) h k = ap (λ (t : List ℕ). File t) (append_cancel_left (codes "file:") s t (sym h.0 ∙ k.0))
