-- How long the text of a sheet is at most.
use Rattle.std.proofs.Common.{◌≡◌, ℕ, suc, ◌+◌, ◌*◌, ◌^◌, ◌<◌, ◌≤◌, Bool, true, false, cond, List, [], ◌∷◌, ◌++◌, length, map, get_or, All, decimal, arith, subst}
use Rattle.std.proofs.lemmas.Fmt.{length-decimal-le_wide}
use Rattle.std.proofs.lemmas.List.{length-append, length-map}
use Rattle.std.proofs.lemmas.List.Elements.{All-head, All-tail, All-map}
use Rattle.std.specs.Fmt.{signed_decimal}
use Rattle.std.specs.Prelude.{ℤ, pos, negsuc, unsigned_abs, codes, Option, Some, None, IfSome, ◌==◌}
use Rattle.csv.specs.Writing.{escaped, quoted, field_text, fields_text, row_text, is_blank, end_text, by_style, needs_quotes, default_writer}
use Rattle.csv.specs.declared.parser.Terminator.{Terminator}
use Rattle.csv.specs.declared.parser.Terminator.TheVariants as term
use Rattle.csv.specs.declared.writer.WriterBuilder.{WriterBuilder}
use Rattle.ofit_num.specs.Flow.{Flow}
use Rattle.ofit_num.specs.Sheet as num
use Rattle.ofit_records.specs.Written.{record_text, records_text}
use Rattle.ofit_study.specs.declared.settings.Settings.{Settings}
use Rattle.ofit_study.specs.declared.loss.LossKind.{LossKind}
use Rattle.ofit_study.specs.declared.loss.LossKind.TheVariants.{Squares, Median}
use Rattle.ofit_study.specs.Settings.{IsBoundInLimits}
use Rattle.ofit_sheet.specs.Kept.{IsKept, IsSizeInLimits, IsFractionInLimits, IsAmountInLimits}
use Rattle.ofit_study.specs.Loss.{loss_text}
use Rattle.ofit_study.specs.FieldText.{bound_text}
use Rattle.ofit_sheet.specs.SheetText.{version_text, header_fields, bounds_fields, size_fields, size_records, name_at, value_fields, flow_fields, end_fields, sheet_text}
use Rattle.ofit_sheet.proofs.WrittenParts.{records_text-append}

either_length : (t : Bool) (xs ys : List ℕ) (n : ℕ) → length xs ≤ n → length ys ≤ n → length (cond t xs ys) ≤ n
either_length true xs ys n l m = l
either_length false xs ys n l m = m

-- a field may double each byte, and two quotes may stand round it
escaped_length : (cfg : WriterBuilder) (field : List ℕ) → length (escaped cfg field) ≤ 2 * length field
unfolding escaped
escaped_length cfg [] = omega arith
escaped_length cfg (b ∷ rest) =
    let h : length (escaped cfg rest) ≤ 2 * length rest = escaped_length cfg rest in
    either_length (b == cfg.quote) (cond cfg.double_quote cfg.quote cfg.escape ∷ b ∷ escaped cfg rest) (b ∷ escaped cfg rest) (2 * suc (length rest)) (omega arith) (omega arith)

field_length : (cfg : WriterBuilder) (field : List ℕ) → length (field_text cfg field) ≤ 2 * length field + 2
field_length cfg field =
    let h : length (escaped cfg field) ≤ 2 * length field = escaped_length cfg field in
    let e : length (escaped cfg field ++ cfg.quote ∷ []) ≡ length (escaped cfg field) + 1 = length-append (escaped cfg field) (cfg.quote ∷ []) in
    either_length (by_style cfg.style (needs_quotes cfg field)) (quoted cfg field) field (2 * length field + 2) (omega arith) (omega arith)

-- a comma more
fields_cost : List (List ℕ) → ℕ
fields_cost [] = 0
fields_cost (field ∷ rest) = 2 * length field + 3 + fields_cost rest

fields_length : (cfg : WriterBuilder) (fields : List (List ℕ)) → length (fields_text cfg fields) ≤ fields_cost fields
unfolding fields_text fields_cost
fields_length cfg [] = omega arith
fields_length cfg (field ∷ rest) =
    omega (arith, field_length cfg field, fields_length cfg rest, length-append (field_text cfg field) (fields_text cfg rest))

end_length : (t : Terminator) → length (end_text t) ≤ 2
end_length term.CRLF = omega arith
end_length (term.Any b) = omega arith

row_length : (cfg : WriterBuilder) (field : List ℕ) (rest : List (List ℕ)) → length (row_text cfg (field ∷ rest)) ≤ 2 * length field + 3 + fields_cost rest + 4
row_length cfg field rest =
    let blank : length (cond (is_blank cfg (field ∷ rest)) (cfg.quote ∷ cfg.quote ∷ []) []) ≤ 2 = either_length (is_blank cfg (field ∷ rest)) (cfg.quote ∷ cfg.quote ∷ []) [] 2 (omega arith) (omega arith) in
    let last : length (end_text cfg.terminator) ≤ 2 = end_length cfg.terminator in
    let tail : length (cond (is_blank cfg (field ∷ rest)) (cfg.quote ∷ cfg.quote ∷ []) [] ++ end_text cfg.terminator) ≡ length (cond (is_blank cfg (field ∷ rest)) (cfg.quote ∷ cfg.quote ∷ []) []) + length (end_text cfg.terminator) =
    length-append (cond (is_blank cfg (field ∷ rest)) (cfg.quote ∷ cfg.quote ∷ []) []) (end_text cfg.terminator) in
    let body : length (field_text cfg field ++ fields_text cfg rest) ≡ length (field_text cfg field) + length (fields_text cfg rest) = length-append (field_text cfg field) (fields_text cfg rest) in
    omega (
      arith,
      field_length cfg field,
      fields_length cfg rest,
      length-append (field_text cfg field ++ fields_text cfg rest) (cond (is_blank cfg (field ∷ rest)) (cfg.quote ∷ cfg.quote ∷ []) [] ++ end_text cfg.terminator),
    )

-- the records of a sheet have four fields
four_length : (a b c d : List ℕ) → length a + length b + length c + length d ≤ 190 → length (record_text (a ∷ b ∷ c ∷ d ∷ [])) ≤ 400
unfolding fields_cost
four_length a b c d few = omega (arith, row_length default_writer a (b ∷ c ∷ d ∷ []))

records_length : (rows : List (List (List ℕ))) → All (λ row. length (record_text row) ≤ 400) rows → length (records_text rows) ≤ 400 * length rows
unfolding records_text
records_length [] each = omega arith
records_length (row ∷ rest) each =
    omega (arith, All-head (λ r. length (record_text r) ≤ 400) row rest each, records_length rest (All-tail (λ r. length (record_text r) ≤ 400) row rest each), length-append (record_text row) (records_text rest))

two_length : (first second : List (List ℕ)) (rows : List (List (List ℕ))) → length (records_text (first ∷ second ∷ rows)) ≡ length (record_text first) + length (record_text second) + length (records_text rows)
unfolding records_text
two_length first second rows =
    omega (arith, length-append (record_text first) (record_text second ++ records_text rows), length-append (record_text second) (records_text rows))

-- the numbers of a sheet
whole_length : (n : ℕ) → n < 10 ^ 34 → length (decimal n) ≤ 34
whole_length n small = length-decimal-le_wide 34 n (omega arith) small (omega arith)

signed_length : (z : ℤ) → unsigned_abs z < 10 ^ 34 → length (signed_decimal z) ≤ 35
signed_length (pos n) small = omega (arith, whole_length n small)
signed_length (negsuc n) small = omega (arith, whole_length (suc n) small)

bound_length : (bound : Option ℤ) → IsBoundInLimits bound → length (bound_text bound) ≤ 35
bound_length None in_limits = omega arith
bound_length (Some z) in_limits = signed_length z (omega (arith, in_limits))

version_length : (size : Option num.Size) → length (version_text size) ≤ 1
version_length None = omega arith
version_length (Some z) = omega arith

loss_length : (loss : LossKind) → length (loss_text loss) ≤ 7
loss_length Squares = omega arith
loss_length Median = omega arith

-- each record, where names have at most 64 bytes
module _ (names : List (List ℕ)) (short : (g : ℕ) → length (name_at names g) ≤ 64) (x : num.Sheet Settings) (kept : IsKept x) where
  header_length : length (record_text (header_fields x)) ≤ 400
  header_length =
      four_length (codes "ofit-sheet") (version_text x.size) (loss_text x.settings.loss) (decimal x.settings.places)
      (omega (arith, version_length x.size, loss_length x.settings.loss, whole_length x.settings.places (omega (arith, kept.settings.places))))

  bounds_length : length (record_text (bounds_fields x.settings)) ≤ 400
  bounds_length =
      four_length (codes "bounds") (bound_text x.settings.lo) (bound_text x.settings.hi) (codes "-")
      (omega (arith, bound_length x.settings.lo kept.settings.lo, bound_length x.settings.hi kept.settings.hi))

  sizes_length : (size : Option num.Size) → IfSome size (λ z. IsSizeInLimits z.rows z.weight) → length (records_text (size_records size)) ≤ 400
  unfolding records_text
  sizes_length None in_limits = omega arith
  sizes_length (Some z) in_limits =
      let e : length (record_text (size_fields z) ++ []) ≡ length (record_text (size_fields z)) + 0 = length-append (record_text (size_fields z)) [] in
      omega (
        arith,
        e,
        four_length (codes "size") (decimal z.rows) (decimal z.weight) (codes "-")
            (omega (arith, whole_length z.rows (omega (arith, in_limits.few)), whole_length z.weight (omega (arith, in_limits.light)))),
      )

  value_length : (e : num.Entry) → IsFractionInLimits e.value → length (record_text (value_fields names e)) ≤ 400
  value_length e in_limits =
      four_length (codes "value") (name_at names e.place) (signed_decimal e.value.num) (decimal e.value.den)
      (omega (arith, short e.place, signed_length e.value.num (omega (arith, in_limits.limits.num)), whole_length e.value.den (omega (arith, in_limits.limits.den))))

  flow_length : (f : Flow) → IsAmountInLimits f.amount → length (record_text (flow_fields names f)) ≤ 400
  flow_length f in_limits =
      four_length (codes "flow") (name_at names f.low) (name_at names f.high) (decimal f.amount)
      (omega (arith, short f.low, short f.high, whole_length f.amount (omega (arith, in_limits.most))))

  end_record_length : length (records_text (end_fields ∷ [])) ≤ 400
  unfolding records_text
  end_record_length =
      let e : length (record_text end_fields ++ []) ≡ length (record_text end_fields) + 0 = length-append (record_text end_fields) [] in
      omega (arith, e, four_length (codes "end") (codes "-") (codes "-") (codes "-") (omega arith))

  values_length : length (records_text (map (value_fields names) x.values)) ≤ 400 * length x.values
  values_length =
      subst (λ (n : ℕ). length (records_text (map (value_fields names) x.values)) ≤ 400 * n) (length-map x.values (value_fields names))
      (records_length (map (value_fields names) x.values) (All-map (λ row. length (record_text row) ≤ 400) (value_fields names) x.values (λ k d l. value_length (get_or x.values k d) (kept.fractions k d l))))

  flows_length : length (records_text (map (flow_fields names) x.flows)) ≤ 400 * length x.flows
  flows_length =
      subst (λ (n : ℕ). length (records_text (map (flow_fields names) x.flows)) ≤ 400 * n) (length-map x.flows (flow_fields names))
      (records_length (map (flow_fields names) x.flows) (All-map (λ row. length (record_text row) ≤ 400) (flow_fields names) x.flows (λ k d l. flow_length (get_or x.flows k d) (kept.amounts k d l))))

  -- what stands behind the bounds
  abbrev later : List (List (List ℕ))
  later = size_records x.size ++ map (value_fields names) x.values ++ map (flow_fields names) x.flows ++ end_fields ∷ []

  later_length : length (records_text later) ≤ 800 + 400 * length x.values + 400 * length x.flows
  later_length = simp (records_text-append, length-append) (omega (arith, sizes_length x.size kept.size, values_length, flows_length, end_record_length))

  pub sheet_length : length (sheet_text names x) ≤ 1600 + 400 * length x.values + 400 * length x.flows
  sheet_length = omega (arith, two_length (header_fields x) (bounds_fields x.settings) later, header_length, bounds_length, later_length)
