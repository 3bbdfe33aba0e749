-- A command with names and settings has one job, and bounds that cross leave it none.
use Rattle.std.proofs.Common.{◌≡◌, ℕ, List, [], ◌∷◌, ◌++◌, refl, sym, ap, ap₂, ◌∙◌, subst, arith}
use Rattle.std.proofs.lemmas.Int.{ints}
use Rattle.std.specs.Prelude.{false, ℤ, Option, Some, None}
use Rattle.ofit_num.proofs.Partings.{head_same, tail_same}
use Rattle.ofit_study.specs.declared.loss.LossKind.{LossKind}
use Rattle.ofit_study.specs.declared.loss.LossKind.TheVariants as loss
use Rattle.ofit_study.specs.declared.settings.Settings.{Settings}
use Rattle.ofit_study.specs.declared.pattern.Pattern.TheVariants as pattern
use Rattle.ofit_study.specs.Settings.{InOrder}
use Rattle.ofit_words.specs.declared.command.Command.{Command}
use Rattle.ofit_words.specs.declared.command.Command.TheVariants as commands
use Rattle.ofit_words.specs.declared.key.Key.{Key}
use Rattle.ofit_words.specs.declared.key.Key.TheVariants.{Order, Loss, Places, Lo, Seed, Groups, Rows, Shape}
use Rattle.ofit_words.specs.declared.job.OrderChoice.{OrderChoice}
use Rattle.ofit_words.specs.declared.job.OrderChoice.TheVariants.{Shaped}
use Rattle.ofit_words.specs.declared.job.Kind.{Kind}
use Rattle.ofit_words.specs.declared.job.Kind.TheVariants as kind
use Rattle.ofit_words.specs.declared.job.Inputs.{Inputs}
use Rattle.ofit_words.specs.declared.job.SampleJob.{SampleJob}
use Rattle.ofit_words.specs.declared.job.Job.{Job}
use Rattle.ofit_words.specs.declared.job.Job.TheVariants.{Fit, Report, Verify, Session, Unimodal, VerifyUnimodal, Levels, Sample}
use Rattle.ofit_words.specs.Commands.{has_key}
use Rattle.ofit_words.specs.Values.{IsNumberIn, IsListedLoss, IsKind, IsBound, IsOrder}
use Rattle.ofit_words.specs.Given.{NoneSets, InForce, AreFine}
use Rattle.ofit_words.specs.Words.{IsLevel, Cross, InputsOf, SampleOf, IsJob}
use Rattle.ofit_words.specs.Made.{DoCross}
use Rattle.ofit_words.proofs.Settled.{one_setting, not_false}
use Rattle.ofit_words.proofs.Names.{one_whole, one_loss, one_kind, one_bound, one_order}
use Rattle.ofit_words.proofs.OneValue.{one_in_force, one_settings}

one_places : (words : List (List ℕ)) (p q : ℕ) → InForce words Places (IsNumberIn 0 6) 3 p → InForce words Places (IsNumberIn 0 6) 3 q → p ≡ q
one_places words = one_in_force (IsNumberIn 0 6) words Places 3 (one_whole 0 6)

one_inputs : (table name : List ℕ) (words : List (List ℕ)) (x y : Inputs) → table ≡ name → InputsOf table words x → InputsOf name words y → x ≡ y
one_inputs table name words x y e h k =
    let make : List ℕ → OrderChoice → Settings → Inputs = λ t o s. record { table = t; order = o; settings = s } in
    let order : x.order ≡ y.order = one_in_force IsOrder words Order (Shaped pattern.Chain) one_order x.order y.order h.order k.order in
    ap (λ (t : List ℕ). make t x.order x.settings) (h.table ∙ e ∙ sym k.table)
    ∙ ap₂ (λ (o : OrderChoice) (s : Settings). make y.table o s) order (one_settings words x.settings y.settings h.settings k.settings)

one_sample : (words : List (List ℕ)) (x y : SampleJob) → SampleOf words x → SampleOf words y → x ≡ y
one_sample words x y h k =
    let make : ℕ → ℕ → ℕ → Kind → LossKind → SampleJob = λ s g r t l. record { seed = s; groups = g; rows = r; kind = t; loss = l } in
    let groups : x.groups ≡ y.groups = one_in_force (IsNumberIn 1 2000) words Groups 100 (one_whole 1 2000) x.groups y.groups h.groups k.groups in
    let P : ℕ → Type 0 = λ g. InForce words Rows (IsNumberIn g 10000) g y.rows in
    let rows : x.rows ≡ y.rows = one_in_force (IsNumberIn x.groups 10000) words Rows x.groups (one_whole x.groups 10000) x.rows y.rows h.rows (subst P (sym groups) k.rows) in
    let seed : x.seed ≡ y.seed = one_in_force (IsNumberIn 0 4294967295) words Seed 1 (one_whole 0 4294967295) x.seed y.seed h.seed k.seed in
    let shape : x.kind ≡ y.kind = one_in_force IsKind words Shape kind.General one_kind x.kind y.kind h.kind k.kind in
    let losses : x.loss ≡ y.loss = one_in_force IsListedLoss words Loss loss.Squares one_loss x.loss y.loss h.loss k.loss in
    ap₂ (λ (s g : ℕ). make s g x.rows x.kind x.loss) seed groups
    ∙ ap₂ (λ (r : ℕ) (t : Kind). make y.seed y.groups r t x.loss) rows shape ∙ ap (λ (l : LossKind). make y.seed y.groups y.rows y.kind l) losses

one_name : (names : List (List ℕ)) (s t : List ℕ) → names ≡ s ∷ [] → names ≡ t ∷ [] → s ≡ t
one_name names s t e d = head_same s t [] [] (sym e ∙ d)

two_names : (names : List (List ℕ)) (s t u v : List ℕ) → names ≡ s ∷ u ∷ [] → names ≡ t ∷ v ∷ [] → (s ≡ t) × (u ≡ v)
two_names names s t u v e d = (head_same s t (u ∷ []) (v ∷ []) (sym e ∙ d), head_same u v [] [] (tail_same s t (u ∷ []) (v ∷ []) (sym e ∙ d)))

pub one_level : (names : List (List ℕ)) (k l : ℕ) → IsLevel names k → IsLevel names l → k ≡ l
one_level names k l h i =
    let P : List ℕ → Type 0 = λ t. IsNumberIn 1 34 t k in
    one_whole 1 34 i.0 k l (subst P (one_name names h.0 i.0 h.1 i.1) h.2) i.2

-- the job as its command makes it
abbrev IsMade : Command → List (List ℕ) → List (List ℕ) → Job → Type 0
IsMade commands.Fit names words job = (inputs : Inputs) × (job ≡ Fit inputs) × ((table : List ℕ) × (names ≡ table ∷ []) × InputsOf table words inputs)
IsMade commands.Report names words job = (inputs : Inputs) × (job ≡ Report inputs) × ((table : List ℕ) × (names ≡ table ∷ []) × InputsOf table words inputs)
IsMade commands.Verify names words job = (inputs : Inputs) × (sheet : List ℕ) × (job ≡ Verify inputs sheet) × ((table : List ℕ) × (names ≡ table ∷ sheet ∷ []) × InputsOf table words inputs)
IsMade commands.Session names words job = (inputs : Inputs) × (script : List ℕ) × (job ≡ Session inputs script) × ((table : List ℕ) × (names ≡ table ∷ script ∷ []) × InputsOf table words inputs)
IsMade commands.Unimodal names words job = (table : List ℕ) × (places : ℕ) × (job ≡ Unimodal table places) × (names ≡ table ∷ []) × InForce words Places (IsNumberIn 0 6) 3 places
IsMade commands.VerifyUnimodal names words job = (table : List ℕ) × (sheet : List ℕ) × (places : ℕ) × (job ≡ VerifyUnimodal table sheet places) × (names ≡ table ∷ sheet ∷ []) × InForce words Places (IsNumberIn 0 6) 3 places
IsMade commands.Levels names words job = (k : ℕ) × (job ≡ Levels k) × IsLevel names k
IsMade commands.Sample names words job = (sample : SampleJob) × (job ≡ Sample sample) × SampleOf words sample

made_from : (c : Command) (names words : List (List ℕ)) (job : Job) → IsJob c names words job → IsMade c names words job
made_from c names words (Fit inputs) h = let P : Command → Type 0 = λ d. IsMade d names words (Fit inputs) in subst P (sym h.0) (inputs, refl, h.1)
made_from c names words (Report inputs) h = let P : Command → Type 0 = λ d. IsMade d names words (Report inputs) in subst P (sym h.0) (inputs, refl, h.1)
made_from c names words (Verify inputs sheet) h = let P : Command → Type 0 = λ d. IsMade d names words (Verify inputs sheet) in subst P (sym h.0) (inputs, sheet, refl, h.1)
made_from c names words (Session inputs script) h = let P : Command → Type 0 = λ d. IsMade d names words (Session inputs script) in subst P (sym h.0) (inputs, script, refl, h.1)
made_from c names words (Unimodal table places) h = let P : Command → Type 0 = λ d. IsMade d names words (Unimodal table places) in subst P (sym h.0) (table, places, refl, h.1, h.2)
made_from c names words (VerifyUnimodal table sheet places) h = let P : Command → Type 0 = λ d. IsMade d names words (VerifyUnimodal table sheet places) in subst P (sym h.0) (table, sheet, places, refl, h.1, h.2)
made_from c names words (Levels k) h = let P : Command → Type 0 = λ d. IsMade d names words (Levels k) in subst P (sym h.0) (k, refl, h.1)
made_from c names words (Sample sample) h = let P : Command → Type 0 = λ d. IsMade d names words (Sample sample) in subst P (sym h.0) (sample, refl, h.1)

one_made : (c : Command) (names words : List (List ℕ)) (x y : Job) → IsMade c names words x → IsMade c names words y → x ≡ y
one_made commands.Fit names words x y (i, e, (s, n, h)) (j, d, (t, m, k)) = e ∙ ap (λ (z : Inputs). Fit z) (one_inputs s t words i j (one_name names s t n m) h k) ∙ sym d
one_made commands.Report names words x y (i, e, (s, n, h)) (j, d, (t, m, k)) = e ∙ ap (λ (z : Inputs). Report z) (one_inputs s t words i j (one_name names s t n m) h k) ∙ sym d
one_made commands.Verify names words x y (i, u, e, (s, n, h)) (j, v, d, (t, m, k)) =
    let same : (s ≡ t) × (u ≡ v) = two_names names s t u v n m in
    e ∙ ap₂ (λ (z : Inputs) (w : List ℕ). Verify z w) (one_inputs s t words i j same.0 h k) same.1 ∙ sym d
one_made commands.Session names words x y (i, u, e, (s, n, h)) (j, v, d, (t, m, k)) =
    let same : (s ≡ t) × (u ≡ v) = two_names names s t u v n m in
    e ∙ ap₂ (λ (z : Inputs) (w : List ℕ). Session z w) (one_inputs s t words i j same.0 h k) same.1 ∙ sym d
one_made commands.Unimodal names words x y (s, p, e, n, h) (t, q, d, m, k) = e ∙ ap₂ (λ (w : List ℕ) (z : ℕ). Unimodal w z) (one_name names s t n m) (one_places words p q h k) ∙ sym d
one_made commands.VerifyUnimodal names words x y (s, u, p, e, n, h) (t, v, q, d, m, k) =
    let same : (s ≡ t) × (u ≡ v) = two_names names s t u v n m in
    e ∙ ap₂ (λ (a b : List ℕ). VerifyUnimodal a b p) same.0 same.1 ∙ ap (λ (z : ℕ). VerifyUnimodal t v z) (one_places words p q h k) ∙ sym d
one_made commands.Levels names words x y (k, e, h) (l, d, i) = e ∙ ap (λ (z : ℕ). Levels z) (one_level names k l h i) ∙ sym d
one_made commands.Sample names words x y (i, e, h) (j, d, k) = e ∙ ap (λ (z : SampleJob). Sample z) (one_sample words i j h k) ∙ sym d

pub one_job : (c : Command) (names words : List (List ℕ)) (x y : Job) → IsJob c names words x → IsJob c names words y → x ≡ y
one_job c names words x y h k = one_made c names words x y (made_from c names words x h) (made_from c names words y k)

-- bounds that cross aren't in order
apart : (lo hi : Option ℤ) → Cross lo hi → InOrder lo hi → ⊥
apart None hi h k = h
apart (Some l) None h k = h
apart (Some l) (Some u) h k = omega (arith, ints, h, k)

crossed_or_made : (words : List (List ℕ)) (table : List ℕ) (inputs : Inputs) → DoCross words → InputsOf table words inputs → ⊥
crossed_or_made words table inputs (settings, s, h) k =
    let P : Settings → Type 0 = λ t. Cross t.lo t.hi in
    apart inputs.settings.lo inputs.settings.hi (subst P (one_settings words settings inputs.settings s k.settings) h) k.bounds

-- settings without a fault don't set a key that the command doesn't have
none_has : (c : Command) (p g : ℕ) (start words : List (List ℕ)) (key : Key) → AreFine c p g start words → has_key c key ≡ false → NoneSets words key
none_has c p g start [] key f e = tt
none_has c p g start (w ∷ ws) key f e = (
  λ value s. not_false (sym f.0.has ∙ ap (has_key c) (one_setting f.0.key key f.0.value value (sym f.0.sets ∙ s)).0 ∙ e),
  none_has c p g (start ++ w ∷ []) ws key f.1 e,
)

crossed_or_none : (c : Command) (p g : ℕ) (words : List (List ℕ)) → AreFine c p g [] words → has_key c Lo ≡ false → DoCross words → ⊥
crossed_or_none c p g words f e (settings, s, h) =
    let none : settings.lo ≡ None = one_in_force (IsBound settings.places) words Lo None (one_bound settings.places) settings.lo None s.lo (None, none_has c p g [] words Lo f e, refl) in
    let P : Option ℤ → Type 0 = λ lo. Cross lo settings.hi in
    subst P none h

pub crossed_or_job : (c : Command) (p g : ℕ) (names words : List (List ℕ)) (job : Job) → AreFine c p g [] words → DoCross words → IsJob c names words job → ⊥
crossed_or_job c p g names words (Fit inputs) f d h = crossed_or_made words h.1.0 inputs d h.1.2
crossed_or_job c p g names words (Report inputs) f d h = crossed_or_made words h.1.0 inputs d h.1.2
crossed_or_job c p g names words (Verify inputs sheet) f d h = crossed_or_made words h.1.0 inputs d h.1.2
crossed_or_job c p g names words (Session inputs script) f d h = crossed_or_made words h.1.0 inputs d h.1.2
crossed_or_job c p g names words (Unimodal table places) f d h = crossed_or_none c p g words f (ap (λ (e : Command). has_key e Lo) h.0) d
crossed_or_job c p g names words (VerifyUnimodal table sheet places) f d h = crossed_or_none c p g words f (ap (λ (e : Command). has_key e Lo) h.0) d
crossed_or_job c p g names words (Levels k) f d h = crossed_or_none c p g words f (ap (λ (e : Command). has_key e Lo) h.0) d
crossed_or_job c p g names words (Sample sample) f d h = crossed_or_none c p g words f (ap (λ (e : Command). has_key e Lo) h.0) d
