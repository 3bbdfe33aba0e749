-- How the tally of fits rises.
use Rattle.std.specs.Prelude.{◌≡◌, ◌+◌, ◌≤◌, ℕ}
use Rattle.ofit_num.specs.Tally.{Counts}
use Rattle.ofit_input.specs.declared.ready.Ready.{Ready}
use Rattle.ofit_top.specs.Job.{HasFits}

-- so many fits more, and at most as many cuts more
pub record IsCounted (fits : ℕ) (before after : Counts) : Type 0 where
  pub fits_are : after.fits ≡ before.fits + fits
  pub least_cuts : before.cuts ≤ after.cuts
  pub most_cuts : after.cuts ≤ before.cuts + fits

-- at most the fits of the job are counted
pub record CountsWithin (ready : Ready) (before after : Counts) : Type 0 where
  pub fits : ℕ
  pub counted : IsCounted fits before after
  pub most : (n : ℕ) → HasFits ready n → fits ≤ n
