-- What a folder holds, and what a fetch does to its count of faults.
use Rattle.std.specs.Prelude.{◌≡◌, ℕ, List, Result, Ok, Err}
use Rattle.std.specs.Ordering.{nat_cmp}
use Rattle.std.specs.Cmp.Lexicographic.{slice_cmp}
use Rattle.std.specs.FinMap.{FinMap}
use Rattle.ofit_outside.specs.Faults.{Rose}
use Rattle.ofit_outside.specs.declared.folder.FetchFault.{FetchFault}
use Rattle.ofit_outside.specs.declared.folder.FetchFault.TheVariants.{Failed, Missing, Long, Memory}

-- from the bytes of a name to the bytes under it
abbrev pub Held : Type 0
Held = FinMap (slice_cmp nat_cmp) (List ℕ)

-- the count rose where the fetch failed, and else is as before
abbrev pub CountsFetch : {T : Type 0} → ℕ → ℕ → Result T FetchFault → Type 0
CountsFetch before after (Ok bytes) = after ≡ before
CountsFetch before after (Err Failed) = Rose before after
CountsFetch before after (Err Missing) = after ≡ before
CountsFetch before after (Err Long) = after ≡ before
CountsFetch before after (Err Memory) = after ≡ before
