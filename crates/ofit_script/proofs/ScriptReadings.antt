-- A script is read in one way.
use Rattle.std.proofs.Common.{◌≡◌, ◌≤◌, ◌+◌, ◌++◌, ◌∙◌, ℕ, ℤ, List, [], ◌∷◌, Result, Ok, Err, length, drop, inl, inr, refl, sym, ap, ap₂, subst, arith, cond}
use Rattle.std.proofs.lemmas.List.{length-append}
use Rattle.std.proofs.lemmas.List.Sums.{sum_by-append, sum_by-cons}
use Rattle.std.specs.List.{AllZip}
use Rattle.std.specs.Prelude.{Bool, true, false, slice_get}
use Rattle.ofit_num.proofs.DecimalTexts.{one_number}
use Rattle.ofit_num.proofs.Numerals.{IsWhole-number}
use Rattle.ofit_num.proofs.Partings.{at_one, first_shorter, parted, second_shorter}
use Rattle.ofit_num.specs.declared.decimal.NumFault.{NumFault}
use Rattle.ofit_records.specs.Records.{records_of}
use Rattle.ofit_study.specs.declared.edit.Edit.TheVariants.{Add, Remove, Value, Weight, Relate, Unrelate}
use Rattle.ofit_study.specs.declared.settings.Settings.{Settings}
use Rattle.ofit_study.specs.FieldRead.{IsRowNumber, IsValue, IsWeight}
use Rattle.ofit_study.proofs.FieldReads.{one_value, one_weight}
use Rattle.ofit_study.proofs.Zips.{split, zip_one}
use Rattle.ofit_script.specs.declared.fault.ScriptFault.{ScriptFault}
use Rattle.ofit_script.specs.declared.kind.Kind.{Kind}
use Rattle.ofit_script.specs.declared.kind.Kind.TheVariants as kind
use Rattle.ofit_script.specs.declared.line.Line.{Line}
use Rattle.ofit_script.specs.declared.line.Line.TheVariants.{Change, Report, Sheet}
use Rattle.ofit_script.specs.Kinds.{Field, group_name, row_number, row_value, row_weight, kind_fields, kind_name, prints}
use Rattle.ofit_script.specs.Lines.{is_print, most_lines, most_prints, print_count}
use Rattle.ofit_script.specs.Spelling.{FieldFault, FieldsFault, FitsField, IsShaped, RecordFault, Spells, bad_field, field_count, too_many_lines, too_many_prints, unknown_line, value_fault}
use Rattle.ofit_script.specs.ScriptRead.{AreLines, HasFault, ScriptRead}
use Rattle.ofit_script.proofs.KindNames.{one_kind}

err_ok : (a : NumFault) (z : ℤ) → ◌≡◌ {A = Result ℤ NumFault} (Err a) (Ok z) → ⊥
err_ok a z e = absurd cc

err_same : (a b : NumFault) → ◌≡◌ {A = Result ℤ NumFault} (Err a) (Err b) → a ≡ b
err_same a b e = cc

clash : ◌≡◌ {A = Bool} true false → ⊥
clash e = absurd cc

number_one : (text : List ℕ) (m n : ℕ) → IsRowNumber text m → IsRowNumber text n → m ≡ n
number_one text m n h k = IsWhole-number text m n h.is_whole k.is_whole

value_one : (places : ℕ) (text : List ℕ) (y z : ℤ) → IsValue places text y → IsValue places text z → y ≡ z
value_one places text y z h k = one_number text places y z h.0 k.0

-- the prints among lines
pub prints-append : (xs ys : List Line) → print_count (xs ++ ys) ≡ print_count xs + print_count ys
prints-append xs ys = sum_by-append (λ (x : Line). cond (is_print x) 1 0) xs ys

pub print_here : (x : Line) (ys : List Line) → is_print x ≡ true → print_count (x ∷ ys) ≡ 1 + print_count ys
print_here x ys e = sum_by-cons (λ (y : Line). cond (is_print y) 1 0) x ys ∙ ap (λ (b : Bool). cond b 1 0 + print_count ys) e

module _ (places : ℕ) where
  -- a field
  fits_not : (field : Field) (text : List ℕ) (number : ℕ) (fault : ScriptFault) → FitsField places field text → FieldFault places field text number fault → ⊥
  fits_not group_name text number fault h k = k.1 h
  fits_not row_number text number fault h k = k.1 h.0 h.1
  fits_not row_value text number fault h k = err_ok k.0 h.0 (one_value places text (Err k.0) (Ok h.0) k.2 h.1)
  fits_not row_weight text number fault h k = k.1 h.0 h.1

  field_one : (field : Field) (text : List ℕ) (number : ℕ) (f g : ScriptFault) → FieldFault places field text number f → FieldFault places field text number g → f ≡ g
  field_one group_name text number f g h k = h.0 ∙ sym k.0
  field_one row_number text number f g h k = h.0 ∙ sym k.0
  field_one row_value text number f g h k = h.1 ∙ ap (λ (w : NumFault). value_fault w number) (err_same h.0 k.0 (one_value places text (Err h.0) (Err k.0) h.2 k.2)) ∙ sym k.1
  field_one row_weight text number f g h k = h.0 ∙ sym k.0

  -- fields
  fields_one : (fields : List Field) (texts : List (List ℕ)) (number : ℕ) (f g : ScriptFault) → FieldsFault places fields texts number f → FieldsFault places fields texts number g → f ≡ g
  fields_one [] texts number f g h k = absurd h
  fields_one (x ∷ xs) [] number f g h k = absurd h
  fields_one (x ∷ xs) (t ∷ ts) number f g (inl h) (inl k) = field_one x t number f g h k
  fields_one (x ∷ xs) (t ∷ ts) number f g (inl h) (inr k) = absurd (fits_not x t number f k.0 h)
  fields_one (x ∷ xs) (t ∷ ts) number f g (inr h) (inl k) = absurd (fits_not x t number g h.0 k)
  fields_one (x ∷ xs) (t ∷ ts) number f g (inr h) (inr k) = fields_one xs ts number f g h.1 k.1

  abbrev AllFit : List Field → List (List ℕ) → Type 0
  AllFit [] [] = Unit {0}
  AllFit [] (t ∷ ts) = ⊥
  AllFit (x ∷ xs) [] = ⊥
  AllFit (x ∷ xs) (t ∷ ts) = FitsField places x t × AllFit xs ts

  all_fit : (fields : List Field) (texts : List (List ℕ)) (number : ℕ) (fault : ScriptFault) → AllFit fields texts → FieldsFault places fields texts number fault → ⊥
  all_fit [] texts number fault h k = k
  all_fit (x ∷ xs) [] number fault h k = k
  all_fit (x ∷ xs) (t ∷ ts) number fault h (inl k) = fits_not x t number fault h.0 k
  all_fit (x ∷ xs) (t ∷ ts) number fault h (inr k) = all_fit xs ts number fault h.1 k.1

  -- a record that spells a line
  abbrev line_kind : Line → Kind
  line_kind (Change (Add group value weight)) = kind.Add
  line_kind (Change (Remove number)) = kind.Remove
  line_kind (Change (Value number value)) = kind.Value
  line_kind (Change (Weight number weight)) = kind.Weight
  line_kind (Change (Relate low high)) = kind.Relate
  line_kind (Change (Unrelate low high)) = kind.Unrelate
  line_kind Report = kind.Report
  line_kind Sheet = kind.Sheet

  record IsGood (fields : List (List ℕ)) (k : Kind) : Type 0 where
    shaped : IsShaped fields k
    fit : AllFit (kind_fields k) (drop 1 fields)

  good : (fields texts : List (List ℕ)) (k : Kind) → fields ≡ kind_name k ∷ texts → length texts ≡ length (kind_fields k) → AllFit (kind_fields k) texts → IsGood fields k
  good fields texts k e l fit = record {
    shaped = record { of = ap (λ (t : List (List ℕ)). slice_get t 0) e; count = omega (arith, ap length e, l) };
    fit = subst (λ (t : List (List ℕ)). AllFit (kind_fields k) (drop 1 t)) (sym e) fit;
  }

  good_line : (fields : List (List ℕ)) (line : Line) → Spells places fields line → IsGood fields (line_kind line)
  good_line fields (Change (Add group value weight)) (amount, size, e, n, v, w) = good fields (group ∷ amount ∷ size ∷ []) kind.Add e refl (n, ((value, v), ((weight, w), tt)))
  good_line fields (Change (Remove number)) (row, e, n) = good fields (row ∷ []) kind.Remove e refl ((number, n), tt)
  good_line fields (Change (Value number value)) (row, amount, e, n, v) = good fields (row ∷ amount ∷ []) kind.Value e refl ((number, n), ((value, v), tt))
  good_line fields (Change (Weight number weight)) (row, size, e, n, w) = good fields (row ∷ size ∷ []) kind.Weight e refl ((number, n), ((weight, w), tt))
  good_line fields (Change (Relate low high)) (e, n, m) = good fields (low ∷ high ∷ []) kind.Relate e refl (n, (m, tt))
  good_line fields (Change (Unrelate low high)) (e, n, m) = good fields (low ∷ high ∷ []) kind.Unrelate e refl (n, (m, tt))
  good_line fields Report e = good fields [] kind.Report e refl tt
  good_line fields Sheet e = good fields [] kind.Sheet e refl tt

  shown : (line : Line) → prints (line_kind line) ≡ is_print line
  shown (Change (Add group value weight)) = refl
  shown (Change (Remove number)) = refl
  shown (Change (Value number value)) = refl
  shown (Change (Weight number weight)) = refl
  shown (Change (Relate low high)) = refl
  shown (Change (Unrelate low high)) = refl
  shown Report = refl
  shown Sheet = refl

  -- an edit prints nothing, so it is none of the lines that do
  print_clash : (a b : Line) → line_kind a ≡ line_kind b → is_print a ≡ true → is_print b ≡ false → ⊥
  print_clash a b e p q =
      let same : is_print a ≡ is_print b = sym (shown a) ∙ ap prints e ∙ shown b in
      absurd (clash (sym p ∙ same ∙ q))

  same_lines : (fields : List (List ℕ)) (a b : Line) → line_kind a ≡ line_kind b → Spells places fields a → Spells places fields b → a ≡ b
  same_lines fields (Change (Add group value weight)) (Change (Add other figure load)) s (amount, size, e, n, v, w) (quantity, mass, q, m, u, x) =
      let names : group ≡ other = cc in
      let amounts : quantity ≡ amount = cc in
      let sizes : mass ≡ size = cc in
      let values : value ≡ figure = value_one places amount value figure v (subst (λ (t : List ℕ). IsValue places t figure) amounts u) in
      let weights : weight ≡ load = one_weight size weight load w (subst (λ (t : List ℕ). IsWeight t load) sizes x) in
      λ i. Change (Add (names i) (values i) (weights i))
  same_lines fields (Change (Remove number)) (Change (Remove other)) s (row, e, n) (line, q, m) =
      let rows : line ≡ row = cc in
      ap (λ (t : ℕ). Change (Remove t)) (number_one row number other n (subst (λ (t : List ℕ). IsRowNumber t other) rows m))
  same_lines fields (Change (Value number value)) (Change (Value other figure)) s (row, amount, e, n, v) (line, quantity, q, m, u) =
      let rows : line ≡ row = cc in
      let amounts : quantity ≡ amount = cc in
      ap₂ (λ (t : ℕ) (z : ℤ). Change (Value t z)) (number_one row number other n (subst (λ (t : List ℕ). IsRowNumber t other) rows m))
      (value_one places amount value figure v (subst (λ (t : List ℕ). IsValue places t figure) amounts u))
  same_lines fields (Change (Weight number weight)) (Change (Weight other load)) s (row, size, e, n, w) (line, mass, q, m, x) =
      let rows : line ≡ row = cc in
      let sizes : mass ≡ size = cc in
      ap₂ (λ (t z : ℕ). Change (Weight t z)) (number_one row number other n (subst (λ (t : List ℕ). IsRowNumber t other) rows m))
      (one_weight size weight load w (subst (λ (t : List ℕ). IsWeight t load) sizes x))
  same_lines fields (Change (Relate low high)) (Change (Relate down up)) s (e, n, m) (q, x, y) =
      let lows : low ≡ down = cc in
      let highs : high ≡ up = cc in
      ap₂ (λ (t z : List ℕ). Change (Relate t z)) lows highs
  same_lines fields (Change (Unrelate low high)) (Change (Unrelate down up)) s (e, n, m) (q, x, y) =
      let lows : low ≡ down = cc in
      let highs : high ≡ up = cc in
      ap₂ (λ (t z : List ℕ). Change (Unrelate t z)) lows highs
  same_lines fields Report Report s h k = refl
  same_lines fields Sheet Sheet s h k = refl
  same_lines fields Report (Change edit) s h k = absurd (print_clash Report (Change edit) s refl refl)
  same_lines fields Sheet (Change edit) s h k = absurd (print_clash Sheet (Change edit) s refl refl)
  same_lines fields a b s h k = absurd (cc)

  line_one : (fields : List (List ℕ)) (a b : Line) → Spells places fields a → Spells places fields b → a ≡ b
  line_one fields a b h k = same_lines fields a b (one_kind fields (line_kind a) (line_kind b) (good_line fields a h).shaped.of (good_line fields b k).shaped.of) h k

  lines_one : (records : List (List (List ℕ))) (xs ys : List Line) → AllZip (Spells places) records xs → AllZip (Spells places) records ys → xs ≡ ys
  lines_one = zip_one (Spells places) line_one

  no_fields : (k : Kind) (texts : List (List ℕ)) (number : ℕ) (fault : ScriptFault) → prints k ≡ true → FieldsFault places (kind_fields k) texts number fault → ⊥
  no_fields kind.Report texts number fault e h = h
  no_fields kind.Sheet texts number fault e h = h
  no_fields k texts number fault e h = absurd (cc)

  -- at one record, behind the same lines, there is one fault
  fault_one : (before : List Line) (fields : List (List ℕ)) (number : ℕ) (f g : ScriptFault) → RecordFault places before fields number f → RecordFault places before fields number g → f ≡ g
  fault_one before fields number f g (too_many_lines l e) (too_many_lines m q) = e ∙ sym q
  fault_one before fields number f g (too_many_lines l e) (unknown_line m u q) = absurd (omega (arith, l, m))
  fault_one before fields number f g (too_many_lines l e) (field_count m k o n q) = absurd (omega (arith, l, m))
  fault_one before fields number f g (too_many_lines l e) (too_many_prints m k o p n q) = absurd (omega (arith, l, m))
  fault_one before fields number f g (too_many_lines l e) (bad_field m k o x) = absurd (omega (arith, l, m))
  fault_one before fields number f g (unknown_line l u e) (too_many_lines m q) = absurd (omega (arith, l, m))
  fault_one before fields number f g (unknown_line l u e) (unknown_line m v q) = e ∙ sym q
  fault_one before fields number f g (unknown_line l u e) (field_count m k o n q) = absurd (u k o)
  fault_one before fields number f g (unknown_line l u e) (too_many_prints m k o p n q) = absurd (u k o.of)
  fault_one before fields number f g (unknown_line l u e) (bad_field m k o x) = absurd (u k o.of)
  fault_one before fields number f g (field_count l j i c e) (too_many_lines m q) = absurd (omega (arith, l, m))
  fault_one before fields number f g (field_count l j i c e) (unknown_line m v q) = absurd (v j i)
  fault_one before fields number f g (field_count l j i c e) (field_count m k o n q) = e ∙ sym q
  fault_one before fields number f g (field_count l j i c e) (too_many_prints m k o p n q) = absurd (c (subst (λ (t : Kind). length fields ≡ 1 + length (kind_fields t)) (one_kind fields k j o.of i) o.count))
  fault_one before fields number f g (field_count l j i c e) (bad_field m k o x) = absurd (c (subst (λ (t : Kind). length fields ≡ 1 + length (kind_fields t)) (one_kind fields k j o.of i) o.count))
  fault_one before fields number f g (too_many_prints l j i p c e) (too_many_lines m q) = absurd (omega (arith, l, m))
  fault_one before fields number f g (too_many_prints l j i p c e) (unknown_line m v q) = absurd (v j i.of)
  fault_one before fields number f g (too_many_prints l j i p c e) (field_count m k o n q) = absurd (n (subst (λ (t : Kind). length fields ≡ 1 + length (kind_fields t)) (one_kind fields j k i.of o) i.count))
  fault_one before fields number f g (too_many_prints l j i p c e) (too_many_prints m k o r n q) = e ∙ sym q
  fault_one before fields number f g (too_many_prints l j i p c e) (bad_field m k o x) =
      absurd (no_fields k (drop 1 fields) number g (subst (λ (t : Kind). prints t ≡ true) (one_kind fields j k i.of o.of) p) x)
  fault_one before fields number f g (bad_field l j i w) (too_many_lines m q) = absurd (omega (arith, l, m))
  fault_one before fields number f g (bad_field l j i w) (unknown_line m v q) = absurd (v j i.of)
  fault_one before fields number f g (bad_field l j i w) (field_count m k o n q) = absurd (n (subst (λ (t : Kind). length fields ≡ 1 + length (kind_fields t)) (one_kind fields j k i.of o) i.count))
  fault_one before fields number f g (bad_field l j i w) (too_many_prints m k o p n q) =
      absurd (no_fields j (drop 1 fields) number f (subst (λ (t : Kind). prints t ≡ true) (one_kind fields k j o.of i.of) p) w)
  fault_one before fields number f g (bad_field l j i w) (bad_field m k o x) =
      fields_one (kind_fields j) (drop 1 fields) number f g w (subst (λ (t : Kind). FieldsFault places (kind_fields t) (drop 1 fields) number g) (one_kind fields k j o.of i.of) x)

  -- a record with a line that stands within the limits has none
  no_fault : (before rest : List Line) (line : Line) (fields : List (List ℕ)) (number : ℕ) (f : ScriptFault) → Spells places fields line → length (before ++ line ∷ rest) ≤ most_lines → print_count (before ++ line ∷ rest) ≤ most_prints
      → RecordFault places before fields number f → ⊥
  no_fault before rest line fields number f h few shows (too_many_lines l e) = absurd (omega (arith, l, few, length-append before (line ∷ rest)))
  no_fault before rest line fields number f h few shows (unknown_line l u e) = u (line_kind line) (good_line fields line h).shaped.of
  no_fault before rest line fields number f h few shows (field_count l k o n e) =
      n (subst (λ (t : Kind). length fields ≡ 1 + length (kind_fields t)) (one_kind fields (line_kind line) k (good_line fields line h).shaped.of o) (good_line fields line h).shaped.count)
  no_fault before rest line fields number f h few shows (too_many_prints l k o p n e) =
      let print : is_print line ≡ true = sym (shown line) ∙ subst (λ (t : Kind). prints t ≡ true) (one_kind fields k (line_kind line) o.of (good_line fields line h).shaped.of) p in
      absurd (omega (arith, n, shows, prints-append before (line ∷ rest), print_here line rest print))
  no_fault before rest line fields number f h few shows (bad_field l k o x) =
      all_fit (kind_fields (line_kind line)) (drop 1 fields) number f (good_line fields line h).fit
      (subst (λ (t : Kind). FieldsFault places (kind_fields t) (drop 1 fields) number f) (one_kind fields k (line_kind line) o.of (good_line fields line h).shaped.of) x)

  none_among : (before after : List (List (List ℕ))) (fields : List (List ℕ)) (lines all : List Line) (number : ℕ) (f : ScriptFault) → AreLines places before lines → RecordFault places lines fields number f
      → AreLines places (before ++ fields ∷ after) all → ⊥
  none_among before after fields lines all number f fine found h =
      let s = split (Spells places) before fields after all h.each in
      let done : s.done ≡ lines = lines_one before s.done lines s.each fine.each in
      let same : all ≡ lines ++ s.one ∷ s.rest = s.same ∙ ap (λ (t : List Line). t ++ s.one ∷ s.rest) done in
      no_fault lines s.rest s.one fields number f s.at (subst (λ (t : List Line). length t ≤ most_lines) same h.few) (subst (λ (t : List Line). print_count t ≤ most_prints) same h.few_prints) found

  first_one : (records : List (List (List ℕ))) (f g : ScriptFault) → HasFault places records f → HasFault places records g → f ≡ g
  first_one records f g h k =
      elim (parted h.before k.before h.after k.after h.fields k.fields (sym h.parted ∙ k.parted)) [
        | at_one e x ↦
            let lines : k.lines ≡ h.lines = lines_one h.before k.lines h.lines (subst (λ (t : List (List (List ℕ))). AllZip (Spells places) t k.lines) (sym e) k.fine.each) h.fine.each in
            let moved : RecordFault places h.lines k.fields (length k.before + 1) g = subst (λ (t : List Line). RecordFault places t k.fields (length k.before + 1) g) lines k.found in
            let here : RecordFault places h.lines k.fields (length h.before + 1) g = subst (λ (t : List (List (List ℕ))). RecordFault places h.lines k.fields (length t + 1) g) (sym e) moved in
            fault_one h.lines h.fields (length h.before + 1) f g h.found (subst (λ (t : List (List ℕ)). RecordFault places h.lines t (length h.before + 1) g) (sym x) here)
        | first_shorter t e ↦
            absurd (none_among h.before t h.fields h.lines k.lines (length h.before + 1) f h.fine h.found (subst (λ (u : List (List (List ℕ))). AreLines places u k.lines) e k.fine))
        | second_shorter t e ↦
            absurd (none_among k.before t k.fields k.lines h.lines (length k.before + 1) g k.fine k.found (subst (λ (u : List (List (List ℕ))). AreLines places u h.lines) e h.fine))
      ]

  none_first : (records : List (List (List ℕ))) (f : ScriptFault) (all : List Line) → HasFault places records f → AreLines places records all → ⊥
  none_first records f all h k =
      none_among h.before h.after h.fields h.lines all (length h.before + 1) f h.fine h.found (subst (λ (t : List (List (List ℕ))). AreLines places t all) h.parted k)

pub one_script : (bytes : List ℕ) (settings : Settings) (a b : Result (List Line) ScriptFault) → ScriptRead bytes settings a → ScriptRead bytes settings b → a ≡ b
one_script bytes settings (Ok xs) (Ok ys) h k = ap (λ (t : List Line). Ok t) (lines_one settings.places (records_of bytes) xs ys h.each k.each)
one_script bytes settings (Ok xs) (Err g) h k = absurd (none_first settings.places (records_of bytes) g xs k h)
one_script bytes settings (Err f) (Ok ys) h k = absurd (none_first settings.places (records_of bytes) f ys h k)
one_script bytes settings (Err f) (Err g) h k = ap (λ (t : ScriptFault). Err t) (first_one settings.places (records_of bytes) f g h k)
