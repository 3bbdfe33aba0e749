-- What a map of texts holds, as a finite map.
use Rattle.std.proofs.Common.{◌≡◌, ℕ, Bool, true, false, cond, List, [], ◌∷◌, Vec, String, Option, Some, refl, sym, ◌∙◌, ap, string_bytes}
use Rattle.std.specs.declared.alloc.Global.{Global}
use Rattle.std.specs.Ordering.{nat_cmp, eq_by_cmp}
use Rattle.std.specs.Option.{option_map}
use Rattle.std.specs.Str.{bytes_eq}
use Rattle.std.specs.String.{string_cmp}
use Rattle.std.specs.Map.{lookup}
use Rattle.std.specs.BTreeMap as tree
use Rattle.std.specs.BTreeMap.{BTreeMap, is_at}
use Rattle.std.specs.Cmp.{eq_by_cmp_equiv}
use Rattle.std.specs.Cmp.Lexicographic.{slice_cmp, nat_list_cmp_total}
use Rattle.std.specs.FinMap.{get, insert, get-insert, get-empty, same_map, nat_cmp-IsAntisymmetric, slice_cmp-IsAntisymmetric}
use Rattle.std.proofs.lemmas.Map.Text.{is_eq-slice_cmp, btree_map_updates_text}
use Rattle.ofit_outside.specs.MemFolder.{held_of}

abbrev items_in : Option (Vec ℕ Global) → Option (List ℕ)
items_in found = option_map (λ v. v.items) found

items_in-cond : (b : Bool) (v : Vec ℕ Global) (o : Option (Vec ℕ Global)) → items_in (cond b (Some v) o) ≡ cond b (Some v.items) (items_in o)
items_in-cond true v o = refl
items_in-cond false v o = refl

get-held_of_entries : (entries : List (String Global × Vec ℕ Global)) (q : List ℕ) → get (held_of entries) q ≡ items_in (lookup (is_at (λ k. slice_cmp nat_cmp q (string_bytes k))) entries)
get-held_of_entries [] q = get-empty (slice_cmp nat_cmp) q
get-held_of_entries (e ∷ entries) q =
    let test = eq_by_cmp (slice_cmp nat_cmp) q (string_bytes e.0) in
    get-insert nat_list_cmp_total (held_of entries) (string_bytes e.0) e.1.items q
    ∙ ap (λ (o : Option (List ℕ)). cond test (Some e.1.items) o) (get-held_of_entries entries q)
    ∙ sym (items_in-cond test e.1 (lookup (is_at (λ k. slice_cmp nat_cmp q (string_bytes k))) entries))

pub get-held_of : (m : BTreeMap (String Global) (Vec ℕ Global)) (q : List ℕ) → get (held_of m.entries) q ≡ option_map (λ v. v.items) (tree.get_by_text m q)
get-held_of m q = get-held_of_entries m.entries q

pub held_of-insert : (old new : BTreeMap (String Global) (Vec ℕ Global)) (key : String Global) (value : Vec ℕ Global) → tree.Updates string_cmp old new key (Some value) → held_of new.entries ≡ insert (held_of old.entries) (string_bytes key) value.items
held_of-insert old new key value updates =
    same_map nat_list_cmp_total (slice_cmp-IsAntisymmetric nat_cmp-IsAntisymmetric) _ _ (λ q.
    get-held_of new q
    ∙ ap items_in (btree_map_updates_text (string_bytes key) old new (Some value) updates q)
    ∙ items_in-cond (bytes_eq (string_bytes key) q) value (tree.get_by_text old q)
    ∙ ap (λ (o : Option (List ℕ)). cond (bytes_eq (string_bytes key) q) (Some value.items) o) (sym (get-held_of old q))
    ∙ ap (λ (b : Bool). cond b (Some value.items) (get (held_of old.entries) q)) (same_test (string_bytes key) q)
    ∙ sym (get-insert nat_list_cmp_total (held_of old.entries) (string_bytes key) value.items q))
  where
    same_test : (k q : List ℕ) → bytes_eq k q ≡ eq_by_cmp (slice_cmp nat_cmp) q k
    same_test k q = sym (is_eq-slice_cmp k q) ∙ (eq_by_cmp_equiv nat_list_cmp_total).symm k q
