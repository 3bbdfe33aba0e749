use Rattle.ofit_top.proofs.OneRun.{one_run}
use Rattle.ofit_top.proofs.laws.runs_end_in_one_way.Goals as goal

pub returns : goal.returns
returns c =
    let run = one_run c.reports_are_told_in_one_way.ensures.study c.scripts_run_in_one_way.ensures.fits c.scripts_run_in_one_way.ensures.texts
    c.samples_are_told_in_one_way.ensures.components c.samples_are_told_in_one_way.ensures.text in
    record {
      answer = λ words h a b t u n m x y. (run h (c.inputs_are_given_in_one_way.ensures.ready h) words (c.words_have_one_reading.ensures words) a b t u n m x y).0;
      fits = λ words h a b t u n m x y. (run h (c.inputs_are_given_in_one_way.ensures.ready h) words (c.words_have_one_reading.ensures words) a b t u n m x y).1;
      text = λ words h a b t u n m x y. (run h (c.inputs_are_given_in_one_way.ensures.ready h) words (c.words_have_one_reading.ensures words) a b t u n m x y).2;
    }
