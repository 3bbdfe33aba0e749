-- The names of made groups.
use Rattle.std.proofs.Common.{◌≡◌, ◌≢◌, ◌≤◌, ◌<◌, ◌+◌, ◌^◌, ℕ, zero, suc, List, [], ◌∷◌, length, sym, subst, inl, inr, arith, All}
use Rattle.std.specs.Prelude.{Contains, decimal, slice_get, Some}
use Rattle.std.specs.List.{AllByRecursion}
use Rattle.std.specs.Str.{IsAscii}
use Rattle.std.proofs.lemmas.Fmt.{IsAscii-decimal, decimal_injective, length-decimal-le}
use Rattle.std.proofs.lemmas.List.Elements.{All-cons, All-nil}
use Rattle.std.proofs.lemmas.List.FromFn.{get_or-map-range_with_len, length-map-range_with_len}
use Rattle.std.proofs.lemmas.Option.{slice_get-get_or}
use Rattle.std.proofs.lemmas.Str.{IsUtf8-from_ascii}
use Rattle.ofit_num.specs.NumberText.{IsDigit, IsWhole}
use Rattle.ofit_num.proofs.Numerals.{IsWhole-decimal}
use Rattle.ofit_num.proofs.Ranges.{all-range}
use Rattle.ofit_study.specs.Name.{IsName, IsNameByte}
use Rattle.ofit_sample.specs.Made.{group_name}
use Rattle.ofit_sample.specs.Making.{first_names}

digits : (text : List ℕ) (n : ℕ) → IsWhole text n → AllByRecursion IsDigit text
digits text n (inl z) = subst (AllByRecursion IsDigit) (sym z.is_zero) ((omega arith, omega arith), tt)
digits text n (inr p) = subst (AllByRecursion IsDigit) (sym p.spells) ((omega (arith, p.above_zero), p.is_digit), p.digits)

plain : (text : List ℕ) → AllByRecursion IsDigit text → All IsNameByte text
plain [] h = All-nil IsNameByte
plain (b ∷ text) h = All-cons IsNameByte b text (omega (arith, h.0.0), λ e. omega (arith, h.0.1, e)) (plain text h.1)

ascii : (text : List ℕ) → IsAscii text → IsAscii (103 ∷ text)
ascii text h zero = omega arith
ascii text h (suc i) = h i

pub name_is : (place : ℕ) → place < 2 ^ 32 → IsName (group_name place)
name_is place h =
    let text = decimal (place + 1) in
    let small : place + 1 < 10 ^ 10 = omega arith in
    let fits : place + 1 < 2 ^ 64 = omega arith in
    let wide : place + 1 < 10 ^ 64 = omega arith in
    let few : length text ≤ 10 = length-decimal-le 10 (place + 1) (omega arith) small fits in
    record {
      some = omega arith;
      most = omega (arith, few);
      plain = All-cons IsNameByte 103 text (omega arith, λ e. omega (arith, e)) (plain text (digits text (place + 1) (IsWhole-decimal (place + 1) wide)));
      text = IsUtf8-from_ascii (103 ∷ text) (ascii text (IsAscii-decimal (place + 1) fits));
    }

-- no two groups have one name
name_one : (i j : ℕ) → i < 2 ^ 32 → j < 2 ^ 32 → group_name i ≡ group_name j → i ≡ j
name_one i j h k e =
    let same : decimal (i + 1) ≡ decimal (j + 1) = cc in
    omega (arith, decimal_injective (i + 1) (j + 1) (omega arith) (omega arith) same)

pub name_new : (count : ℕ) → count < 2 ^ 32 → All (λ known. known ≢ group_name count) (first_names count)
name_new count h = all-range (λ (known : List ℕ). known ≢ group_name count) group_name 0 count (λ i low high e. omega (arith, name_one i count (omega arith) h e))

pub names-length : (count : ℕ) → length (first_names count) ≡ count
names-length count = length-map-range_with_len group_name 0 count

pub name_there : (count place : ℕ) → place < count → Contains (first_names count) (group_name place)
name_there count place h = (place, omega (arith, names-length count), get_or-map-range_with_len group_name 0 count place place (group_name place) h (omega arith))

pub name_at : (count place : ℕ) → place < count → slice_get (first_names count) place ≡ Some (group_name place)
name_at count place h =
    subst (λ (x : List ℕ). slice_get (first_names count) place ≡ Some x) (get_or-map-range_with_len group_name 0 count place place (group_name place) h (omega arith))
    (slice_get-get_or (first_names count) place (group_name place) (omega (arith, names-length count)))
