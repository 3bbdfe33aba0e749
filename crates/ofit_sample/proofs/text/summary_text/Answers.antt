use Rattle.std.proofs.Common.{◌≡◌, ◌++◌, ◌∙◌, ℕ, List, [], ◌∷◌, codes, length, ap, arith}
use Rattle.std.proofs.lemmas.Result.{IfOk-weaker}
use Rattle.ofit_records.specs.Written.{record_text, records_text}
use Rattle.ofit_study.specs.FieldText.{dash}
use Rattle.ofit_study.proofs.Places.{group_count}
use Rattle.ofit_sample.specs.SampleText.{TellsSample, end_fields, header_fields, parts_fields, size_fields, value_fields, verdict_fields}
use Rattle.ofit_sample.proofs.Told.{no_record, one_record}
use Rattle.ofit_sample.proofs.text.summary_text.Goals as goal

pub count_blocks-requires : goal.count_blocks-requires
count_blocks-requires c = c.requires.best.count ∙ group_count c.args.study.now

pub least_of-least-requires-clause-some : goal.least_of-least-requires-clause-some
least_of-least-requires-clause-some c = λ e. omega (arith, ap length e, c.requires.best.count, group_count c.args.study.now, c.requires.groups)

pub greatest_of-greatest-requires-clause-some : goal.greatest_of-greatest-requires-clause-some
greatest_of-greatest-requires-clause-some c = λ e. omega (arith, ap length e, c.requires.best.count, group_count c.args.study.now, c.requires.groups)

pub returns : goal.returns
returns c =
    let job = c.args.job.now in
    let s = c.args.study.now in
    let values = c.args.values.now in
    let header = header_fields job in
    let size = size_fields s in
    let parts = parts_fields c.in_ok-components.components c.in_ok-blocks.blocks in
    let least = value_fields (codes "least") c.least_of-least.result in
    let greatest = value_fields (codes "greatest") c.greatest_of-greatest.result in
    let word : c.add_record.new.self ≡ c.write_value-2.new.writer ++ record_text verdict_fields =
    c.in_ok-add_record.ensures ∙ ap (λ (t : List ℕ). c.write_value-2.new.writer ++ record_text (codes "verdict" ∷ t ∷ dash ∷ dash ∷ [])) c.verdict_word-word.ensures in
    let none : c.in_ok-writer.writer ≡ records_text [] = no_record c.in_ok-writer.writer c.in_ok-writer.ensures in
    let one = one_record [] header c.in_ok-writer.writer c.write_header.new.writer none c.in_ok-write_header.ensures in
    let two = one_record (header ∷ []) size c.write_header.new.writer c.write_size.new.writer one c.in_ok-write_size.ensures in
    let three = one_record (header ∷ size ∷ []) parts c.write_size.new.writer c.write_parts.new.writer two c.in_ok-write_parts.ensures in
    let four = one_record (header ∷ size ∷ parts ∷ []) least c.write_parts.new.writer c.write_value.new.writer three c.in_ok-write_value.ensures in
    let five = one_record (header ∷ size ∷ parts ∷ least ∷ []) greatest c.write_value.new.writer c.write_value-2.new.writer four c.in_ok-write_value-2.ensures in
    let six = one_record (header ∷ size ∷ parts ∷ least ∷ greatest ∷ []) verdict_fields c.write_value-2.new.writer c.add_record.new.self five word in
    let seven = one_record (header ∷ size ∷ parts ∷ least ∷ greatest ∷ verdict_fields ∷ []) end_fields c.add_record.new.self c.add_record-2.new.self six c.in_ok-add_record-2.ensures in
    IfOk-weaker c.into_text.result (λ text. text.items ≡ c.add_record-2.new.self) (λ text. TellsSample job s values text.items)
    (λ text e. record {
      components = c.in_ok-components.components;
      is_count = c.in_ok-components.ensures;
      blocks = c.in_ok-blocks.blocks;
      is_block_count = c.in_ok-blocks.ensures;
      least = c.least_of-least.result;
      is_least = c.least_of-least.ensures;
      greatest = c.greatest_of-greatest.result;
      is_greatest = c.greatest_of-greatest.ensures;
      spells = e ∙ seven;
    }) c.into_text.ensures
