-- What a session counts: the components of its study at the start, and then those that edits touch.
use Rattle.std.proofs.Common.{◌≡◌, ℕ, ◌+◌, ◌≤◌, ◌^◌, List, refl, sym, subst, arith, get_or}
use Rattle.std.proofs.lemmas.List.{length-map}
use Rattle.std.proofs.lemmas.List.Elements.{Contains-get_or}
use Rattle.ofit_num.specs.Problem.{Problem}
use Rattle.ofit_num.specs.Tally.{Counts}
use Rattle.ofit_fit.proofs.Fitted.{one_count}
use Rattle.ofit_fit.proofs.Ready.{few_members}
use Rattle.ofit_study.specs.Counted.{HasComponentCount}
use Rattle.ofit_study.specs.Study.{Study, IsValid, names_of, rows_named, problem_stated}
use Rattle.ofit_script.specs.declared.line.Line.{Line}
use Rattle.ofit_script.specs.ScriptGives.{ScriptFits}
use Rattle.ofit_input.specs.declared.ready.Ready.TheVariants.{Session}
use Rattle.ofit_top.specs.Counting.{CountsWithin}
use Rattle.ofit_top.specs.Steps.{CountsJob}
use Rattle.ofit_top.proofs.Counted.{job_counts, job_within}

pub few_components : (s : Problem) (n : ℕ) → HasComponentCount s n → n ≤ s.count
few_components s n (least, are, e) = omega (arith, e, few_members least s.count are.rising (λ i d l. ((are.exact (get_or least i d)).0 (Contains-get_or least i d l)).inside))

-- so there is room for the fits of the lines
module _ (s : Study) (v : IsValid s) (n : ℕ) (has : HasComponentCount (problem_stated s) n) (before middle : Counts) (fits : middle.fits ≡ before.fits + n) where
  few : n ≤ 2000
  few = omega (arith, few_components (problem_stated s) n has, length-map (names_of s) (rows_named s.rows), v.groups)

  pub room : before.fits ≤ 2 ^ 63 → middle.fits ≤ 2 ^ 63 + 2 ^ 31
  room l = omega (arith, few, fits, l)

  pub room_for_cuts : before.cuts ≤ 2 ^ 63 → middle.cuts + before.fits ≤ before.cuts + middle.fits → middle.cuts ≤ 2 ^ 63 + 2 ^ 31
  room_for_cuts l fewer = omega (arith, few, fits, l, fewer)

module _ (s : Study) (lines : List Line) (before middle after : Counts) where
  -- memory was wanting for the fit of the study
  pub start_within : before.fits ≤ middle.fits → before.cuts ≤ middle.cuts → middle.cuts + before.fits ≤ before.cuts + middle.fits
      → ((n : ℕ) → HasComponentCount (problem_stated s) n → middle.fits ≤ before.fits + n) → CountsWithin (Session s lines) before middle
  start_within grown cuts fewer most = job_within (Session s lines) before middle grown cuts fewer (λ n h. omega (arith, most h.0 h.2, h.4))

  -- memory was wanting for the lines
  pub lines_within : (n : ℕ) → HasComponentCount (problem_stated s) n → middle.fits ≡ before.fits + n → before.cuts ≤ middle.cuts → middle.cuts + before.fits ≤ before.cuts + middle.fits
      → middle.fits ≤ after.fits → middle.cuts ≤ after.cuts → after.cuts + middle.fits ≤ middle.cuts + after.fits
      → ((m : ℕ) → ScriptFits s lines m → after.fits ≤ middle.fits + m) → CountsWithin (Session s lines) before after
  lines_within n has fits cuts fewer grown more less most =
      job_within (Session s lines) before after (omega (arith, fits, grown)) (omega (arith, cuts, more)) (omega (arith, fewer, less))
      (λ m h. omega (arith, fits, one_count (problem_stated s) h.0 n h.2 has, most h.1 h.3, h.4))

  -- all lines ran
  pub lines_counted : (n m : ℕ) → HasComponentCount (problem_stated s) n → ScriptFits s lines m → middle.fits ≡ before.fits + n → after.fits ≡ middle.fits + m
      → before.cuts ≤ middle.cuts → middle.cuts + before.fits ≤ before.cuts + middle.fits → middle.cuts ≤ after.cuts → after.cuts + middle.fits ≤ middle.cuts + after.fits
      → CountsJob (Session s lines) before after
  lines_counted n m has ran fits more cuts fewer grown less =
      job_counts (Session s lines) before after (n + m) (n, m, has, ran, refl) (omega (arith, fits, more)) (omega (arith, cuts, grown)) (omega (arith, fewer, less))
