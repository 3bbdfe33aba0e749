-- How a counted fit stands within its components.
use Rattle.std.proofs.Common.{ℕ, ◌≡◌, ◌+◌, ◌-◌, ◌≤◌, arith}
use Rattle.ofit_num.specs.Tally.{Counts}
use Rattle.ofit_input.specs.declared.ready.Ready.{Ready}
use Rattle.ofit_top.specs.Counting.{CountsWithin}
use Rattle.ofit_top.specs.Steps.{CountsJob}
use Rattle.ofit_top.specs.Job.{HasFits}

-- what a job counts that gave a text,
pub job_counts : (ready : Ready) (before after : Counts) (n : ℕ) → HasFits ready n → after.fits ≡ before.fits + n → before.cuts ≤ after.cuts → after.cuts + before.fits ≤ before.cuts + after.fits → CountsJob ready before after
job_counts ready before after n has fits grown fewer = record {
  fits = n;
  has = has;
  counted = record { fits_are = fits; least_cuts = grown; most_cuts = omega (arith, fits, fewer) };
}

-- which is within what it may count,
pub whole_within : (ready : Ready) (before after : Counts) → ((n m : ℕ) → HasFits ready n → HasFits ready m → n ≡ m) → CountsJob ready before after → CountsWithin ready before after
whole_within ready before after one counts = record {
  fits = counts.fits;
  counted = counts.counted;
  most = λ m k. omega (arith, one counts.fits m counts.has k);
}

-- and one for which memory was wanting
pub job_within : (ready : Ready) (before after : Counts) → before.fits ≤ after.fits → before.cuts ≤ after.cuts → after.cuts + before.fits ≤ before.cuts + after.fits
    → ((n : ℕ) → HasFits ready n → after.fits ≤ before.fits + n) → CountsWithin ready before after
job_within ready before after grown cuts fewer most = record {
  fits = after.fits - before.fits;
  counted = record { fits_are = omega (arith, grown); least_cuts = cuts; most_cuts = omega (arith, grown, fewer) };
  most = λ n h. omega (arith, most n h, grown);
}

-- a job that fits nothing counts nothing
pub none_counts : (ready : Ready) (counts : Counts) → HasFits ready 0 → CountsJob ready counts counts
none_counts ready counts has = record {
  fits = 0;
  has = has;
  counted = record { fits_are = omega arith; least_cuts = omega arith; most_cuts = omega arith };
}

-- not even where memory is wanting
pub none_within : (ready : Ready) (counts : Counts) → CountsWithin ready counts counts
none_within ready counts = record {
  fits = 0;
  counted = record { fits_are = omega arith; least_cuts = omega arith; most_cuts = omega arith };
  most = λ n h. omega arith;
}
