-- How a script has run so far.
use Rattle.std.proofs.Common.{◌≡◌, ◌+◌, ◌*◌, ◌<◌, ◌≤◌, ◌++◌, ◌⊎◌, ℕ, List, [], length, inl, inr, refl, sym, subst, arith, take, drop}
use Rattle.std.proofs.lemmas.List.{take_more, take_all, drop_more, take-append-drop, length-take}
use Rattle.ofit_num.specs.Tally.{Counts}
use Rattle.ofit_session.specs.Fitted.{Fitted}
use Rattle.ofit_study.specs.Study.{Study}
use Rattle.ofit_script.specs.declared.line.Line.{Line}
use Rattle.ofit_script.specs.declared.line.Line.TheVariants.{Report}
use Rattle.ofit_script.specs.ScriptGives.{LineGives, ScriptGives}
use Rattle.ofit_script.specs.Runs.{CountsLine, IsBehind, IsRun, RanInPart, line_at}
use Rattle.ofit_script.proofs.OneRun.{run_more}

-- so many lines ran, and each fitted at most two components
pub record IsRunSoFar (s : Study) (lines : List Line) (index : ℕ) (now : Study) (text : List ℕ) (counts counted : Counts) : Type 0 where
  pub fits : ℕ
  pub gives : ScriptGives 1 s (take index lines) now text fits
  pub counts_are : counted.fits ≡ counts.fits + fits
  pub few : fits ≤ 2 * index
  pub grown_cuts : counts.cuts ≤ counted.cuts
  pub fewer_cuts : counted.cuts + counts.fits ≤ counts.cuts + counted.fits

number_of : (lines : List Line) (index : ℕ) → index < length lines → 1 + length (take index lines) ≡ index + 1
number_of lines index l = omega (arith, length-take index lines)

module _ (s : Study) (lines : List Line) (index : ℕ) (inside : index < length lines) where
  -- behind a line more
  more : (mid after : Study) (t u : List ℕ) (n m : ℕ) → ScriptGives 1 s (take index lines) mid t n → LineGives (index + 1) mid (line_at lines index) after u m → ScriptGives 1 s (take (index + 1) lines) after (t ++ u) (n + m)
  more mid after t u n m h l =
      subst (λ (x : List Line). ScriptGives 1 s x after (t ++ u) (n + m)) (sym (take_more lines index Report inside))
      (run_more (take index lines) 1 s (line_at lines index) mid after t u n m h (subst (λ (k : ℕ). LineGives k mid (line_at lines index) after u m) (sym (number_of lines index inside)) l))

  pub line_ran : (mid after : Study) (t u : List ℕ) (counts middle counted : Counts) → IsRunSoFar s lines index mid t counts middle → IsRun (index + 1) mid (line_at lines index) after t u middle counted
      → counted.fits ≤ middle.fits + 2 → middle.cuts ≤ counted.cuts → counted.cuts + middle.fits ≤ middle.cuts + counted.fits → IsRunSoFar s lines (index + 1) after u counts counted
  line_ran mid after t u counts middle counted h run few grown fewer = record {
    fits = h.fits + run.fits;
    gives = subst (λ (x : List ℕ). ScriptGives 1 s (take (index + 1) lines) after x (h.fits + run.fits)) (sym run.appended) (more mid after t run.text h.fits run.fits h.gives run.gives);
    counts_are = omega (arith, h.counts_are, run.counts_are);
    few = omega (arith, h.few, few, run.counts_are);
    grown_cuts = omega (arith, h.grown_cuts, grown);
    fewer_cuts = omega (arith, h.fewer_cuts, fewer);
  }

  -- want of memory in a line
  pub stopped_before : (mid : Study) (t : List ℕ) (counts middle counted : Counts) → IsRunSoFar s lines index mid t counts middle → CountsLine mid (line_at lines index) middle counted → RanInPart s lines mid counts counted
  stopped_before mid t counts middle counted h most = record {
    ran = take index lines;
    left = drop index lines;
    parted = sym (take-append-drop index lines);
    text = t;
    fits = h.fits;
    gives = h.gives;
    middle = middle;
    counts_are = h.counts_are;
    next = inr (record { line = line_at lines index; rest = drop (index + 1) lines; is = drop_more lines index Report inside; most = most });
  }

  pub stopped_behind : (mid after : Study) (t : List ℕ) (counts middle counted : Counts) → IsRunSoFar s lines index mid t counts middle → IsBehind (index + 1) mid (line_at lines index) after middle counted → RanInPart s lines after counts counted
  stopped_behind mid after t counts middle counted h behind = record {
    ran = take (index + 1) lines;
    left = drop (index + 1) lines;
    parted = sym (take-append-drop (index + 1) lines);
    text = t ++ behind.text;
    fits = h.fits + behind.fits;
    gives = more mid after t behind.text h.fits behind.fits h.gives behind.gives;
    middle = counted;
    counts_are = omega (arith, h.counts_are, behind.counts_are);
    next = inl refl;
  }

  pub stopped : (before now : Fitted) (t : List ℕ) (counts middle counted : Counts) → IsRunSoFar s lines index before.study t counts middle
      → ((now ≡ before) × CountsLine before.study (line_at lines index) middle counted) ⊎ IsBehind (index + 1) before.study (line_at lines index) now.study middle counted → RanInPart s lines now.study counts counted
  stopped before now t counts middle counted h (inl k) = subst (λ (x : Fitted). RanInPart s lines x.study counts counted) (sym k.0) (stopped_before before.study t counts middle counted h k.1)
  stopped before now t counts middle counted h (inr k) = stopped_behind before.study now.study t counts middle counted h k

-- all lines ran
pub whole_ran : (s : Study) (lines : List Line) (index : ℕ) (now : Study) (t : List ℕ) (counts counted : Counts) → length lines ≤ index → IsRunSoFar s lines index now t counts counted
    → (n : ℕ) × ScriptGives 1 s lines now t n × (counted.fits ≡ counts.fits + n)
whole_ran s lines index now t counts counted l h = (h.fits, subst (λ (x : List Line). ScriptGives 1 s x now t h.fits) (take_all index lines l) h.gives, h.counts_are)

-- none ran yet
pub none_ran : (s : Study) (lines : List Line) (counts : Counts) → IsRunSoFar s lines 0 s [] counts counts
none_ran s lines counts = record {
  fits = 0;
  gives = record { stays = refl; silent = refl; none = refl };
  counts_are = omega arith;
  few = omega arith;
  grown_cuts = omega arith;
  fewer_cuts = omega arith;
}
