-- Records are read in one way alone, where headers and items are spelled in one way.
use Rattle.std.proofs.Common.{◌≡◌, ℕ, true, false, List, [], ◌∷◌, ◌++◌, length, Result, Ok, Err, refl, sym, ap, subst, ◌∙◌, append_assoc, append-nil, arith}
use Rattle.ofit_num.proofs.Partings.{at_one, first_shorter, head_same, parted, second_shorter, tail_same}
use Rattle.ofit_sheet.specs.declared.fault.SheetFault.{SheetFault}
use Rattle.ofit_sheet.specs.declared.fault.SheetFault.TheVariants as fault
use Rattle.ofit_sheet.specs.Frame.{Rules, Grammar, IsGood, AreGood, IsAfterEnd, IsBad, IsTooLarge, ReadsTo, HasBadHeader, StopsAt, FrameRead}

module _ {I : Type 0} (r : Rules I) where
  -- a good record has none of the three faults, and no record has two of them
  after_good : (before : List I) (fields : List (List ℕ)) (item : I) → IsGood r before fields item → IsAfterEnd r before fields → ⊥
  after_good before fields item k f = absurd (let e = k.open_yet in cc)

  bad_good : (before : List I) (fields : List (List ℕ)) (item : I) → IsGood r before fields item → IsBad r before fields → ⊥
  bad_good before fields item k f = f.breaks item k.spells

  after_bad : (before : List I) (fields : List (List ℕ)) → IsAfterEnd r before fields → IsBad r before fields → ⊥
  after_bad before fields f k = absurd (let e = k.open_yet in cc)

  after_large : (before : List I) (fields : List (List ℕ)) → IsAfterEnd r before fields → IsTooLarge r before fields → ⊥
  after_large before fields f k = absurd (let e = k.open_yet in cc)

  bad_large : (before : List I) (fields : List (List ℕ)) → IsBad r before fields → IsTooLarge r before fields → ⊥
  bad_large before fields f k = f.breaks k.item k.spells

  module _ (item_one : (before : List I) (fields : List (List ℕ)) (i j : I) → r.Spells before fields i → r.Spells before fields j → i ≡ j) where
    large_good : (before : List I) (fields : List (List ℕ)) (item : I) → IsGood r before fields item → IsTooLarge r before fields → ⊥
    large_good before fields item k f = f.beyond (subst r.IsWithin (item_one before fields item f.item k.spells f.spells) k.within)

    good_one : (before : List I) (rows : List (List (List ℕ))) (items others : List I) → AreGood r before rows items → AreGood r before rows others → items ≡ others
    good_one before [] [] [] h k = refl
    good_one before [] [] (y ∷ others) h k = absurd k
    good_one before [] (x ∷ items) others h k = absurd h
    good_one before (row ∷ rows) [] others h k = absurd h
    good_one before (row ∷ rows) (x ∷ items) [] h k = absurd k
    good_one before (row ∷ rows) (x ∷ items) (y ∷ others) h k =
        let same : y ≡ x = item_one before row y x k.0.spells h.0.spells in
        let rest = good_one (before ++ x ∷ []) rows items others h.1 (subst (λ (t : I). AreGood r (before ++ t ∷ []) rows others) same k.1) in
        ap (λ (t : I). t ∷ items) (sym same) ∙ ap (λ (t : List I). y ∷ t) rest

    -- a record among good ones is good
    good_at : (ctx : List I) (before : List (List (List ℕ))) (fields : List (List ℕ)) (after : List (List (List ℕ))) (items own : List I) → AreGood r ctx (before ++ fields ∷ after) items → AreGood r ctx before own
        → (item : I) × IsGood r (ctx ++ own) fields item
    good_at ctx [] fields after [] own h k = absurd h
    good_at ctx [] fields after (x ∷ items) [] h k = (x, subst (λ (t : List I). IsGood r t fields x) (sym (append-nil ctx)) h.0)
    good_at ctx [] fields after (x ∷ items) (y ∷ own) h k = absurd k
    good_at ctx (row ∷ before) fields after [] own h k = absurd h
    good_at ctx (row ∷ before) fields after (x ∷ items) [] h k = absurd k
    good_at ctx (row ∷ before) fields after (x ∷ items) (y ∷ own) h k =
        let same : x ≡ y = item_one ctx row x y h.0.spells k.0.spells in
        let n = good_at (ctx ++ y ∷ []) before fields after items own (subst (λ (t : I). AreGood r (ctx ++ t ∷ []) (before ++ fields ∷ after) items) same h.1) k.1 in
        (n.0, subst (λ (t : List I). IsGood r t fields n.0) (append_assoc ctx (y ∷ []) own) n.1)

module _ {H I : Type 0} (g : Grammar H I) where
  module _ (header_one : (fields : List (List ℕ)) (a b : H) → g.IsHeader fields a → g.IsHeader fields b → a ≡ b)
      (item_one : (head : H) (before : List I) (fields : List (List ℕ)) (i j : I) → (g.rules head).Spells before fields i → (g.rules head).Spells before fields j → i ≡ j) where
    module _ (rows : List (List (List ℕ))) where
      -- what two readings of all records have in common
      record Same (h k : H) (items others : List I) : Type 0 where
        heads : h ≡ k
        all : items ≡ others

      whole_one : (h k : H) (items others : List I) → ReadsTo g rows h items → ReadsTo g rows k others → Same h k items others
      whole_one h k items others r q =
          let both : r.first ∷ r.others ≡ q.first ∷ q.others = sym r.parted ∙ q.parted in
          let first : q.first ≡ r.first = sym (head_same r.first q.first r.others q.others both) in
          let rest : q.others ≡ r.others = sym (tail_same r.first q.first r.others q.others both) in
          let heads : h ≡ k = header_one r.first h k r.header (subst (λ (t : List (List ℕ)). g.IsHeader t k) first q.header) in
          record {
            heads = heads;
            all = good_one (g.rules h) (item_one h) [] r.others items others r.good
                (subst (λ (t : List (List (List ℕ))). AreGood (g.rules h) [] t others) rest (subst (λ (t : H). AreGood (g.rules t) [] q.others others) (sym heads) q.good));
          }

      no_header : (h : H) (items : List I) → HasBadHeader g.IsHeader rows → ReadsTo g rows h items → ⊥
      no_header h items b r = b r.first r.others h r.parted r.header

      module _ (F : Rules I → List I → List (List ℕ) → Type 0) (f_not : (head : H) (before : List I) (fields : List (List ℕ)) (item : I) → IsGood (g.rules head) before fields item → F (g.rules head) before fields → ⊥) where
        no_stop : (n : ℕ) → HasBadHeader g.IsHeader rows → StopsAt g rows n F → ⊥
        no_stop n b s = b s.reads.first (s.reads.others ++ s.fields ∷ s.after) s.head (s.parted ∙ ap (λ (t : List (List (List ℕ))). t ++ s.fields ∷ s.after) s.reads.parted) s.reads.header

        no_whole : (n : ℕ) (k : H) (others : List I) → StopsAt g rows n F → ReadsTo g rows k others → ⊥
        no_whole n k others s q =
            let r = s.reads in
            let both : q.first ∷ q.others ≡ r.first ∷ (r.others ++ s.fields ∷ s.after) = sym q.parted ∙ s.parted ∙ ap (λ (t : List (List (List ℕ))). t ++ s.fields ∷ s.after) r.parted in
            let first : r.first ≡ q.first = sym (head_same q.first r.first q.others (r.others ++ s.fields ∷ s.after) both) in
            let rest : q.others ≡ r.others ++ s.fields ∷ s.after = tail_same q.first r.first q.others (r.others ++ s.fields ∷ s.after) both in
            let heads : k ≡ s.head = header_one q.first k s.head q.header (subst (λ (t : List (List ℕ)). g.IsHeader t s.head) first r.header) in
            let good : AreGood (g.rules s.head) [] (r.others ++ s.fields ∷ s.after) others =
            subst (λ (t : List (List (List ℕ))). AreGood (g.rules s.head) [] t others) rest (subst (λ (t : H). AreGood (g.rules t) [] q.others others) heads q.good) in
            let h = good_at (g.rules s.head) (item_one s.head) [] r.others s.fields s.after others s.items good r.good in
            f_not s.head s.items s.fields h.0 h.1 s.fault

        module _ (G : Rules I → List I → List (List ℕ) → Type 0) (g_not : (head : H) (before : List I) (fields : List (List ℕ)) (item : I) → IsGood (g.rules head) before fields item → G (g.rules head) before fields → ⊥) where
          -- two faults at one record
          record Both (n m : ℕ) : Type 0 where
            number : n ≡ m
            head : H
            items : List I
            fields : List (List ℕ)
            one : F (g.rules head) items fields
            other : G (g.rules head) items fields

          stop_one : (n m : ℕ) → StopsAt g rows n F → StopsAt g rows m G → Both n m
          stop_one n m s q =
              let a = s.reads in
              let b = q.reads in
              let left : rows ≡ a.first ∷ (a.others ++ s.fields ∷ s.after) = s.parted ∙ ap (λ (t : List (List (List ℕ))). t ++ s.fields ∷ s.after) a.parted in
              let right : rows ≡ b.first ∷ (b.others ++ q.fields ∷ q.after) = q.parted ∙ ap (λ (t : List (List (List ℕ))). t ++ q.fields ∷ q.after) b.parted in
              let both : a.first ∷ (a.others ++ s.fields ∷ s.after) ≡ b.first ∷ (b.others ++ q.fields ∷ q.after) = sym left ∙ right in
              let first : b.first ≡ a.first = sym (head_same a.first b.first (a.others ++ s.fields ∷ s.after) (b.others ++ q.fields ∷ q.after) both) in
              let heads : q.head ≡ s.head = header_one a.first q.head s.head (subst (λ (t : List (List ℕ)). g.IsHeader t q.head) first b.header) a.header in
              let good : AreGood (g.rules s.head) [] b.others q.items = subst (λ (t : H). AreGood (g.rules t) [] b.others q.items) heads b.good in
              let fault : G (g.rules s.head) q.items q.fields = subst (λ (t : H). G (g.rules t) q.items q.fields) heads q.fault in
              elim (parted a.others b.others s.after q.after s.fields q.fields (tail_same a.first b.first (a.others ++ s.fields ∷ s.after) (b.others ++ q.fields ∷ q.after) both)) [
                | at_one e x ↦
                    let same : q.items ≡ s.items = good_one (g.rules s.head) (item_one s.head) [] b.others q.items s.items good (subst (λ (t : List (List (List ℕ))). AreGood (g.rules s.head) [] t s.items) e a.good) in
                    let lengths : length a.others ≡ length b.others = ap length e in
                    record {
                      number = omega (arith, s.counted, q.counted, ap length a.parted, ap length b.parted, lengths);
                      head = s.head;
                      items = s.items;
                      fields = s.fields;
                      one = s.fault;
                      other = subst (λ (t : List (List ℕ)). G (g.rules s.head) s.items t) (sym x) (subst (λ (t : List I). G (g.rules s.head) t q.fields) same fault);
                    }
                | first_shorter t e ↦
                    let h = good_at (g.rules s.head) (item_one s.head) [] a.others s.fields t q.items s.items (subst (λ (u : List (List (List ℕ))). AreGood (g.rules s.head) [] u q.items) e good) a.good in
                    absurd (f_not s.head s.items s.fields h.0 h.1 s.fault)
                | second_shorter t e ↦
                    let h = good_at (g.rules s.head) (item_one s.head) [] b.others q.fields t s.items q.items (subst (λ (u : List (List (List ℕ))). AreGood (g.rules s.head) [] u s.items) e a.good) good in
                    absurd (g_not s.head q.items q.fields h.0 h.1 fault)
              ]

      ended_open : (h k : H) (items others : List I) → Same h k items others → (g.rules h).has_end items ≡ true → (g.rules k).has_end others ≡ false → ⊥
      ended_open h k items others s e f = absurd (let d = ap (g.rules h).has_end s.all ∙ ap (λ (t : H). (g.rules t).has_end others) s.heads in cc)

      module _ {X : Type 0} (IsMade : H → List I → X → Type 0) (made_one : (head : H) (items : List I) (x y : X) → IsMade head items x → IsMade head items y → x ≡ y) where
        pub one_reading : (a b : Result X SheetFault) → FrameRead g IsMade rows a → FrameRead g IsMade rows b → (a ≡ Err fault.Memory → ⊥) → (b ≡ Err fault.Memory → ⊥) → a ≡ b
        one_reading (Ok x) (Ok y) h k u v =
            let w = whole_one h.head k.head h.items k.items h.reads k.reads in
            ap (λ (t : X). Ok t)
            (made_one h.head h.items x y h.made (subst (λ (t : H). IsMade t h.items y) (sym w.heads) (subst (λ (t : List I). IsMade k.head t y) (sym w.all) k.made)))
        one_reading (Ok x) (Err fault.BadHeader) h k u v = absurd (no_header h.head h.items k h.reads)
        one_reading (Ok x) (Err (fault.BadRecord m)) h k u v = absurd (no_whole IsBad (λ head. bad_good (g.rules head)) m h.head h.items k h.reads)
        one_reading (Ok x) (Err (fault.NumberTooLarge m)) h k u v = absurd (no_whole IsTooLarge (λ head. large_good (g.rules head) (item_one head)) m h.head h.items k h.reads)
        one_reading (Ok x) (Err fault.NoEnd) h k u v = absurd (ended_open h.head k.head h.items k.items (whole_one h.head k.head h.items k.items h.reads k.reads) h.ended k.open_yet)
        one_reading (Ok x) (Err (fault.AfterEnd m)) h k u v = absurd (no_whole IsAfterEnd (λ head. after_good (g.rules head)) m h.head h.items k h.reads)
        one_reading (Ok x) (Err fault.Memory) h k u v = absurd (v refl)
        one_reading (Err fault.BadHeader) (Ok y) h k u v = absurd (no_header k.head k.items h k.reads)
        one_reading (Err fault.BadHeader) (Err fault.BadHeader) h k u v = refl
        one_reading (Err fault.BadHeader) (Err (fault.BadRecord m)) h k u v = absurd (no_stop IsBad (λ head. bad_good (g.rules head)) m h k)
        one_reading (Err fault.BadHeader) (Err (fault.NumberTooLarge m)) h k u v = absurd (no_stop IsTooLarge (λ head. large_good (g.rules head) (item_one head)) m h k)
        one_reading (Err fault.BadHeader) (Err fault.NoEnd) h k u v = absurd (no_header k.head k.items h k.reads)
        one_reading (Err fault.BadHeader) (Err (fault.AfterEnd m)) h k u v = absurd (no_stop IsAfterEnd (λ head. after_good (g.rules head)) m h k)
        one_reading (Err fault.BadHeader) (Err fault.Memory) h k u v = absurd (v refl)
        one_reading (Err (fault.BadRecord n)) (Ok y) h k u v = absurd (no_whole IsBad (λ head. bad_good (g.rules head)) n k.head k.items h k.reads)
        one_reading (Err (fault.BadRecord n)) (Err fault.BadHeader) h k u v = absurd (no_stop IsBad (λ head. bad_good (g.rules head)) n k h)
        one_reading (Err (fault.BadRecord n)) (Err (fault.BadRecord m)) h k u v = ap (λ (t : ℕ). Err (fault.BadRecord t)) (stop_one IsBad (λ head. bad_good (g.rules head)) IsBad (λ head. bad_good (g.rules head)) n m h k).number
        one_reading (Err (fault.BadRecord n)) (Err (fault.NumberTooLarge m)) h k u v = absurd (let w = stop_one IsBad (λ head. bad_good (g.rules head)) IsTooLarge (λ head. large_good (g.rules head) (item_one head)) n m h k in bad_large (g.rules w.head) w.items w.fields w.one w.other)
        one_reading (Err (fault.BadRecord n)) (Err fault.NoEnd) h k u v = absurd (no_whole IsBad (λ head. bad_good (g.rules head)) n k.head k.items h k.reads)
        one_reading (Err (fault.BadRecord n)) (Err (fault.AfterEnd m)) h k u v = absurd (let w = stop_one IsBad (λ head. bad_good (g.rules head)) IsAfterEnd (λ head. after_good (g.rules head)) n m h k in after_bad (g.rules w.head) w.items w.fields w.other w.one)
        one_reading (Err (fault.BadRecord n)) (Err fault.Memory) h k u v = absurd (v refl)
        one_reading (Err (fault.NumberTooLarge n)) (Ok y) h k u v = absurd (no_whole IsTooLarge (λ head. large_good (g.rules head) (item_one head)) n k.head k.items h k.reads)
        one_reading (Err (fault.NumberTooLarge n)) (Err fault.BadHeader) h k u v = absurd (no_stop IsTooLarge (λ head. large_good (g.rules head) (item_one head)) n k h)
        one_reading (Err (fault.NumberTooLarge n)) (Err (fault.BadRecord m)) h k u v = absurd (let w = stop_one IsTooLarge (λ head. large_good (g.rules head) (item_one head)) IsBad (λ head. bad_good (g.rules head)) n m h k in bad_large (g.rules w.head) w.items w.fields w.other w.one)
        one_reading (Err (fault.NumberTooLarge n)) (Err (fault.NumberTooLarge m)) h k u v = ap (λ (t : ℕ). Err (fault.NumberTooLarge t)) (stop_one IsTooLarge (λ head. large_good (g.rules head) (item_one head)) IsTooLarge (λ head. large_good (g.rules head) (item_one head)) n m h k).number
        one_reading (Err (fault.NumberTooLarge n)) (Err fault.NoEnd) h k u v = absurd (no_whole IsTooLarge (λ head. large_good (g.rules head) (item_one head)) n k.head k.items h k.reads)
        one_reading (Err (fault.NumberTooLarge n)) (Err (fault.AfterEnd m)) h k u v = absurd (let w = stop_one IsTooLarge (λ head. large_good (g.rules head) (item_one head)) IsAfterEnd (λ head. after_good (g.rules head)) n m h k in after_large (g.rules w.head) w.items w.fields w.other w.one)
        one_reading (Err (fault.NumberTooLarge n)) (Err fault.Memory) h k u v = absurd (v refl)
        one_reading (Err fault.NoEnd) (Ok y) h k u v = absurd (ended_open k.head h.head k.items h.items (whole_one k.head h.head k.items h.items k.reads h.reads) k.ended h.open_yet)
        one_reading (Err fault.NoEnd) (Err fault.BadHeader) h k u v = absurd (no_header h.head h.items k h.reads)
        one_reading (Err fault.NoEnd) (Err (fault.BadRecord m)) h k u v = absurd (no_whole IsBad (λ head. bad_good (g.rules head)) m h.head h.items k h.reads)
        one_reading (Err fault.NoEnd) (Err (fault.NumberTooLarge m)) h k u v = absurd (no_whole IsTooLarge (λ head. large_good (g.rules head) (item_one head)) m h.head h.items k h.reads)
        one_reading (Err fault.NoEnd) (Err fault.NoEnd) h k u v = refl
        one_reading (Err fault.NoEnd) (Err (fault.AfterEnd m)) h k u v = absurd (no_whole IsAfterEnd (λ head. after_good (g.rules head)) m h.head h.items k h.reads)
        one_reading (Err fault.NoEnd) (Err fault.Memory) h k u v = absurd (v refl)
        one_reading (Err (fault.AfterEnd n)) (Ok y) h k u v = absurd (no_whole IsAfterEnd (λ head. after_good (g.rules head)) n k.head k.items h k.reads)
        one_reading (Err (fault.AfterEnd n)) (Err fault.BadHeader) h k u v = absurd (no_stop IsAfterEnd (λ head. after_good (g.rules head)) n k h)
        one_reading (Err (fault.AfterEnd n)) (Err (fault.BadRecord m)) h k u v = absurd (let w = stop_one IsAfterEnd (λ head. after_good (g.rules head)) IsBad (λ head. bad_good (g.rules head)) n m h k in after_bad (g.rules w.head) w.items w.fields w.one w.other)
        one_reading (Err (fault.AfterEnd n)) (Err (fault.NumberTooLarge m)) h k u v = absurd (let w = stop_one IsAfterEnd (λ head. after_good (g.rules head)) IsTooLarge (λ head. large_good (g.rules head) (item_one head)) n m h k in after_large (g.rules w.head) w.items w.fields w.one w.other)
        one_reading (Err (fault.AfterEnd n)) (Err fault.NoEnd) h k u v = absurd (no_whole IsAfterEnd (λ head. after_good (g.rules head)) n k.head k.items h k.reads)
        one_reading (Err (fault.AfterEnd n)) (Err (fault.AfterEnd m)) h k u v = ap (λ (t : ℕ). Err (fault.AfterEnd t)) (stop_one IsAfterEnd (λ head. after_good (g.rules head)) IsAfterEnd (λ head. after_good (g.rules head)) n m h k).number
        one_reading (Err (fault.AfterEnd n)) (Err fault.Memory) h k u v = absurd (v refl)
        one_reading (Err fault.Memory) (Ok y) h k u v = absurd (u refl)
        one_reading (Err fault.Memory) (Err fault.BadHeader) h k u v = absurd (u refl)
        one_reading (Err fault.Memory) (Err (fault.BadRecord m)) h k u v = absurd (u refl)
        one_reading (Err fault.Memory) (Err (fault.NumberTooLarge m)) h k u v = absurd (u refl)
        one_reading (Err fault.Memory) (Err fault.NoEnd) h k u v = absurd (u refl)
        one_reading (Err fault.Memory) (Err (fault.AfterEnd m)) h k u v = absurd (u refl)
        one_reading (Err fault.Memory) (Err fault.Memory) h k u v = absurd (u refl)
