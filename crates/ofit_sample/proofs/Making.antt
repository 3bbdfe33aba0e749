-- A made study, row by row.
use Rattle.std.proofs.Common.{◌≡◌, ◌≤◌, ◌<◌, ◌+◌, ◌-◌, ◌*◌, ◌%◌, ◌^◌, ◌++◌, ◌∙◌, ℕ, ℤ, pos, List, [], ◌∷◌, length, refl, sym, ap, subst, inl, inr, arith, append_assoc, append-nil}
use Rattle.std.specs.Prelude.{All, Contains}
use Rattle.std.proofs.lemmas.List.{length-append}
use Rattle.std.proofs.lemmas.List.Elements.{All-contains}
use Rattle.std.proofs.lemmas.List.FromFn.{length-map-range_with_len, map-range_with_len_more}
use Rattle.std.proofs.lemmas.List.Sums.{sum_by-append, sum_by-cons}
use Rattle.ofit_study.specs.declared.fault.AddFault.{AddFault}
use Rattle.ofit_study.specs.declared.fault.AddFault.TheVariants.{TooManyRows, TooHeavy, TooManyGroups, Memory}
use Rattle.ofit_study.specs.Adding.{HasGroupOrRoom, IsRefused}
use Rattle.ofit_study.specs.Added.{with_row}
use Rattle.ofit_study.specs.Study.{GainsRow, Observation, Study, group_names, names_of, total_weight}
use Rattle.ofit_study.proofs.GroupNames.{group_names-push_known, group_names-push_new}
use Rattle.ofit_table.specs.Numbered.{AreNumbered}
use Rattle.ofit_table.proofs.Pushed.{numbered-push, pushed}
use Rattle.ofit_words.specs.declared.job.SampleJob.{SampleJob}
use Rattle.ofit_sample.specs.Generator.{next_number, number_after, drawn}
use Rattle.ofit_sample.specs.Made.{group_name, row_drawn, first_row, first_rows, later_draws, later_row, later_rows, table_of}
use Rattle.ofit_sample.specs.Making.{AreMaking, HasRoom, IsUnderway, first_names}
use Rattle.ofit_sample.proofs.Names.{name_new, name_there, names-length}
use Rattle.ofit_sample.proofs.Stepped.{after_next, drawn_on}

light_more : (rows : List Observation) (r : Observation) → total_weight rows ≤ 9 * length rows → r.weight ≤ 9 → total_weight (rows ++ r ∷ []) ≤ 9 * length (rows ++ r ∷ [])
light_more rows r h w =
    let weighs : total_weight (rows ++ r ∷ []) ≡ total_weight rows + r.weight =
    sum_by-append (λ (q : Observation). q.weight) rows (r ∷ []) ∙ ap (λ (n : ℕ). total_weight rows + n) (sum_by-cons (λ (q : Observation). q.weight) r [] ∙ omega arith) in
    omega (arith, weighs, length-append rows (r ∷ []), h, w)

-- a row of a new group, and of one of those before
first_more : (rows : List Observation) (count : ℕ) (r : Observation) → AreMaking rows count → count < 2 ^ 32 → r.number ≡ length rows + 1 → r.group ≡ group_name count → r.weight ≤ 9 → AreMaking (rows ++ r ∷ []) (count + 1)
first_more rows count r h small number group weight =
    let new : All (λ known. known ≡ group_name count → ⊥) (group_names rows) = subst (λ (names : List (List ℕ)). All (λ known. known ≡ group_name count → ⊥) names) (sym h.names) (name_new count small) in
    let fresh : All (λ known. known ≡ r.group → ⊥) (group_names rows) = subst (λ (name : List ℕ). All (λ known. known ≡ name → ⊥) (group_names rows)) (sym group) new in
    record {
      numbered = numbered-push rows r h.numbered number;
      light = light_more rows r h.light weight;
      names = group_names-push_new rows r fresh ∙ ap (λ (names : List (List ℕ)). names ++ r.group ∷ []) h.names ∙ ap (λ (name : List ℕ). first_names count ++ name ∷ []) group
          ∙ sym (map-range_with_len_more group_name 0 count count (omega arith));
    }

later_more : (rows : List Observation) (count place : ℕ) (r : Observation) → AreMaking rows count → place < count → r.number ≡ length rows + 1 → r.group ≡ group_name place → r.weight ≤ 9 → AreMaking (rows ++ r ∷ []) count
later_more rows count place r h known number group weight =
    let there : Contains (group_names rows) r.group =
    subst (λ (names : List (List ℕ)). Contains names r.group) (sym h.names) (subst (λ (name : List ℕ). Contains (first_names count) name) (sym group) (name_there count place known)) in
    record {
      numbered = numbered-push rows r h.numbered number;
      light = light_more rows r h.light weight;
      names = group_names-push_known rows r there ∙ h.names;
    }

-- no limit keeps a row out where there is room
pub only_memory : (s : Study) (place weight : ℕ) (fault : AddFault) → HasRoom s place → weight ≤ 9 → IsRefused s (group_name place) weight fault → fault ≡ Memory
only_memory s place weight TooManyRows room w h = absurd (omega (arith, room.few, h))
only_memory s place weight TooHeavy room w h = absurd (omega (arith, room.few, room.light, h.1))
only_memory s place weight TooManyGroups room w h = absurd (by room.group)
  where
    by : HasGroupOrRoom s (group_name place) → ⊥
    by (inl there) = All-contains (λ known. known ≡ group_name place → ⊥) (names_of s) (group_name place) h.2 there refl
    by (inr less) = omega (arith, less, h.3)
only_memory s place weight Memory room w h = refl

-- the row that a study gains is the one that is drawn
pub row_added : (s t : Study) (place x y z : ℕ) (name : List ℕ) (value : ℤ) (weight : ℕ) → HasRoom s place → y ≡ next_number x → z ≡ next_number y → name ≡ group_name place → value ≡ pos (y % 2001) → weight ≡ 1 + z % 9
    → GainsRow s name value weight t → (seed draws : ℕ) → x ≡ number_after seed draws → t ≡ with_row s (row_drawn seed (length s.rows) place draws)
row_added s t place x y z name value weight room first second named valued weighed gains seed draws is =
    let own : Observation = row_drawn seed (length s.rows) place draws in
    let value_drawn : y % 2001 ≡ drawn seed (draws + 1) 2001 = ap (λ (n : ℕ). n % 2001) (first ∙ ap next_number is ∙ sym (after_next seed draws)) in
    let weight_drawn : 1 + z % 9 ≡ 1 + drawn seed (draws + 2) 9 = ap (λ (n : ℕ). 1 + n % 9) (drawn_on x y z first second seed draws is) in
    let p = pushed s name value weight t room.numbered gains in
    let number_is : p.row.number ≡ own.number = p.number_is in
    let group_is : p.row.group ≡ own.group = p.group_is ∙ named in
    let value_is : p.row.value ≡ own.value = p.value_is ∙ valued ∙ ap pos value_drawn in
    let weight_is : p.row.weight ≡ own.weight = p.weight_is ∙ weighed ∙ weight_drawn in
    let row : p.row ≡ own = (λ i. record { number = number_is i; group = group_is i; value = value_is i; weight = weight_is i }) in
    gains.gains ∙ ap (λ (rows : List Observation). record s { rows = rows }) (sym (ap (λ (u : Study). u.rows) gains.gains) ∙ p.rows ∙ ap (λ (r : Observation). s.rows ++ r ∷ []) row)

module _ (job : SampleJob) where
  pub none_made : (s : Study) (x : ℕ) → s ≡ table_of job [] → x ≡ number_after job.seed 0 → IsUnderway job [] 0 0 s x
  none_made s x study is = record {
    study = study;
    making = record { numbered = λ k r e. absurd cc; light = omega arith; names = refl };
    drawn = is;
  }

  room_for : (rows : List Observation) (count draws : ℕ) (s : Study) (x place : ℕ) → IsUnderway job rows count draws s x → length rows < 10000 → HasGroupOrRoom s (group_name place) → HasRoom s place
  room_for rows count draws s x place h few group =
      let same : s.rows ≡ rows = ap (λ (u : Study). u.rows) h.study in
      record {
        numbered = subst AreNumbered (sym same) h.making.numbered;
        few = omega (arith, ap length same, few);
        light = subst (λ (rs : List Observation). total_weight rs ≤ 9 * length rs) (sym same) h.making.light;
        group = group;
      }

  pub names_are : (rows : List Observation) (count draws : ℕ) (s : Study) (x : ℕ) → IsUnderway job rows count draws s x → names_of s ≡ first_names count
  names_are rows count draws s x h = ap (λ (u : Study). names_of u) h.study ∙ h.making.names

  firsts : (n : ℕ) → length (first_rows job.seed n) ≡ n
  firsts n = length-map-range_with_len (first_row job.seed) 0 n

  pub first_room : (place : ℕ) (s : Study) (x : ℕ) → IsUnderway job (first_rows job.seed place) place (2 * place) s x → place < 2000 → HasRoom s place
  first_room place s x h small = room_for _ place (2 * place) s x place h (omega (arith, firsts place, small)) (inr (omega (arith, small, ap length (names_are _ place (2 * place) s x h), names-length place)))

  abbrev pub Adds : Study → ℕ → ℕ → Study → ℕ → Type 0
  Adds s x place t y = ((seed draws : ℕ) → x ≡ number_after seed draws → t ≡ with_row s (row_drawn seed (length s.rows) place draws)) × ((seed draws : ℕ) → x ≡ number_after seed draws → y ≡ number_after seed (draws + 2))

  small_weight : (seed draws : ℕ) → 1 + drawn seed draws 9 ≤ 9
  small_weight seed draws = omega arith

  pub first_step : (place : ℕ) (s t : Study) (x y : ℕ) → place < 2 ^ 32 → IsUnderway job (first_rows job.seed place) place (2 * place) s x → Adds s x place t y
      → IsUnderway job (first_rows job.seed (place + 1)) (place + 1) (2 * (place + 1)) t y
  first_step place s t x y small h adds =
      let rows = first_rows job.seed place in
      let row = first_row job.seed place in
      let index : length s.rows ≡ place = ap (λ (u : Study). length u.rows) h.study ∙ firsts place in
      let grown : t ≡ table_of job (rows ++ row ∷ []) =
      adds.0 job.seed (2 * place) h.drawn ∙ ap (λ (n : ℕ). with_row s (row_drawn job.seed n place (2 * place))) index ∙ ap (λ (u : Study). with_row u row) h.study in
      let more : rows ++ row ∷ [] ≡ first_rows job.seed (place + 1) = sym (map-range_with_len_more (first_row job.seed) 0 place place (omega arith)) in
      let making : AreMaking (rows ++ row ∷ []) (place + 1) = first_more rows place row h.making small (omega (arith, firsts place)) refl (small_weight job.seed (2 * place + 2)) in
      let draws : 2 * place + 2 ≡ 2 * (place + 1) = omega arith in
      record {
        study = grown ∙ ap (table_of job) more;
        making = subst (λ (rs : List Observation). AreMaking rs (place + 1)) more making;
        drawn = adds.1 job.seed (2 * place) h.drawn ∙ ap (λ (n : ℕ). number_after job.seed n) draws;
      }

  pub first_done : (place : ℕ) (s : Study) (x : ℕ) → place ≡ job.groups → IsUnderway job (first_rows job.seed place) place (2 * place) s x → IsUnderway job (first_rows job.seed job.groups) job.groups (later_draws job.groups 0) s x
  first_done place s x e h =
      let draws : 2 * job.groups ≡ later_draws job.groups 0 = omega arith in
      subst (λ (n : ℕ). IsUnderway job (first_rows job.seed job.groups) job.groups n s x) draws (subst (λ (n : ℕ). IsUnderway job (first_rows job.seed n) n (2 * n) s x) e h)

  abbrev pub rows_upto : ℕ → List Observation
  rows_upto k = first_rows job.seed job.groups ++ later_rows job.seed job.groups k

  pub upto : (k : ℕ) → length (rows_upto k) ≡ job.groups + k
  upto k = length-append (first_rows job.seed job.groups) (later_rows job.seed job.groups k) ∙ omega (arith, firsts job.groups, length-map-range_with_len (later_row job.seed job.groups) 0 k)

  pub later_room : (k place : ℕ) (s : Study) (x : ℕ) → IsUnderway job (rows_upto k) job.groups (later_draws job.groups k) s x → job.groups + k < 10000 → place < job.groups → HasRoom s place
  later_room k place s x h few small =
      room_for (rows_upto k) job.groups (later_draws job.groups k) s x place h (omega (arith, upto k, few))
      (inl (subst (λ (names : List (List ℕ)). Contains names (group_name place)) (sym (names_are (rows_upto k) job.groups (later_draws job.groups k) s x h)) (name_there job.groups place small)))

  -- its place is drawn first
  pub later_step : (k : ℕ) (s t : Study) (x y z place : ℕ) → place < job.groups → IsUnderway job (rows_upto k) job.groups (later_draws job.groups k) s x → y ≡ next_number x → place ≡ y % job.groups → Adds s y place t z
      → IsUnderway job (rows_upto (k + 1)) job.groups (later_draws job.groups (k + 1)) t z
  later_step k s t x y z place small h next at adds =
      let seed = job.seed in
      let groups = job.groups in
      let before = later_draws groups k in
      let rows = rows_upto k in
      let row = later_row seed groups k in
      let here : y ≡ number_after seed (before + 1) = next ∙ ap next_number h.drawn ∙ sym (after_next seed before) in
      let place_is : place ≡ drawn seed (before + 1) groups = at ∙ ap (λ (n : ℕ). n % groups) here in
      let index : length s.rows ≡ groups + k = ap (λ (u : Study). length u.rows) h.study ∙ upto k in
      let grown : t ≡ table_of job (rows ++ row ∷ []) =
      adds.0 seed (before + 1) here
      ∙ ap (λ (n : ℕ). with_row s (row_drawn seed n place (before + 1))) index
      ∙ ap (λ (n : ℕ). with_row s (row_drawn seed (groups + k) n (before + 1))) place_is
      ∙ ap (λ (u : Study). with_row u row) h.study in
      let more : rows ++ row ∷ [] ≡ rows_upto (k + 1) =
      append_assoc (first_rows seed groups) (later_rows seed groups k) (row ∷ []) ∙ ap (λ (rs : List Observation). first_rows seed groups ++ rs) (sym (map-range_with_len_more (later_row seed groups) 0 k k (omega arith))) in
      let making : AreMaking (rows ++ row ∷ []) groups =
      later_more rows groups place row h.making small (omega (arith, upto k)) (ap group_name (sym place_is)) (small_weight seed (before + 1 + 2)) in
      let draws : before + 1 + 2 ≡ later_draws groups (k + 1) = omega arith in
      record {
        study = grown ∙ ap (table_of job) more;
        making = subst (λ (rs : List Observation). AreMaking rs groups) more making;
        drawn = adds.1 seed (before + 1) here ∙ ap (λ (n : ℕ). number_after seed n) draws;
      }

  pub later_begun : (k : ℕ) (s : Study) (x : ℕ) → k ≡ 0 → IsUnderway job (first_rows job.seed job.groups) job.groups (later_draws job.groups 0) s x → IsUnderway job (rows_upto k) job.groups (later_draws job.groups k) s x
  later_begun k s x e h =
      subst (λ (n : ℕ). IsUnderway job (rows_upto n) job.groups (later_draws job.groups n) s x) (sym e)
      (subst (λ (rs : List Observation). IsUnderway job rs job.groups (later_draws job.groups 0) s x) (sym (append-nil (first_rows job.seed job.groups))) h)

  pub later_more_made : (row : ℕ) (s : Study) (x : ℕ) → job.groups ≤ row → IsUnderway job (rows_upto (row - job.groups + 1)) job.groups (later_draws job.groups (row - job.groups + 1)) s x
      → IsUnderway job (rows_upto (row + 1 - job.groups)) job.groups (later_draws job.groups (row + 1 - job.groups)) s x
  later_more_made row s x h is =
      let same : row - job.groups + 1 ≡ row + 1 - job.groups = omega (arith, h) in
      subst (λ (n : ℕ). IsUnderway job (rows_upto n) job.groups (later_draws job.groups n) s x) same is

  pub later_done : (row : ℕ) (s : Study) (x : ℕ) → row ≡ job.rows → IsUnderway job (rows_upto (row - job.groups)) job.groups (later_draws job.groups (row - job.groups)) s x
      → IsUnderway job (rows_upto (job.rows - job.groups)) job.groups (later_draws job.groups (job.rows - job.groups)) s x
  later_done row s x e h = subst (λ (n : ℕ). IsUnderway job (rows_upto (n - job.groups)) job.groups (later_draws job.groups (n - job.groups)) s x) e h
