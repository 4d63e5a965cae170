-- A crash leaves a guarded change complete, or invisible.
use Rattle.std.proofs.Common.{◌≡◌, ◌≢◌, ◌⊎◌, ℕ, ◌+◌, ◌-◌, ◌*◌, ◌<◌, ◌≤◌, List, ◌++◌, length, take, get_or, replicate, Option, None, unwrap_or, refl, sym, ap, ◌∙◌, subst, arith, inl, inr, append_assoc}
use Rattle.std.specs.List.{All}
use Rattle.std.proofs.Math.Seq.{take-append-add}
use Rattle.std.proofs.lemmas.Bool.{cases_eq, cases_lt}
use Rattle.std.proofs.lemmas.List.{ext_get_or, length-append, length-map, length-replicate, get_or-replicate, get_or_past, take-append-le, take_all}
use Rattle.std.proofs.lemmas.List.Elements.{All-append, All-take}
use Rattle.cut_words.specs.Words.{Words, Step, store, keep, seen_at, after, settled, IsLeft, IsLeftAfter}
use Rattle.cut_words.specs.Groups.{stores, keeps, group, written, guarded, NotIn}
use Rattle.cut_words.specs.Guarded.{IsGuarded, IsClosed, IsOld, IsWhole}
use Rattle.cut_words.proofs.Stays.{Fits, Holds, stays, after-append, length_kept, length_stored, IsSized, sized_after, group_misses, group_finishes, written_fits, group_reaches, written_reaches, Clear, group_clear, written_clear, here, away, among}

-- a property of both the visible and the kept value of a word holds after a crash
pub left_holds : (P : ℕ → Type 0) (i : ℕ) (words : Words) (left : List ℕ) → Holds P i words → IsLeft words left → P (get_or left i 0)
left_holds P i words left h cut = elim (cut.each i) [ inl e ↦ subst P (sym e) h.kept | inr e ↦ subst P (sym e) h.seen ]

pub settled_none : (n i : ℕ) → get_or (replicate {A = Option ℕ} n None) i None ≡ None
settled_none n i =
    elim (cases_lt i n) [
      | inl lt ↦ get_or-replicate n i None None lt
      | inr past ↦ get_or_past (replicate n None) i None (omega (arith, length-replicate {A = Option ℕ} n None))
    ]

-- of settled words a load returns the kept value
pub seen_is : (old : List ℕ) (i : ℕ) → seen_at (settled old) i ≡ get_or old i 0
seen_is old i = ap (λ (o : Option ℕ). unwrap_or o (get_or old i 0)) (settled_none (length old) i)

pub length_group : (final places : List ℕ) → length (group final places) ≡ 2 * length places
length_group final places = length-append (stores final places) (keeps places) ∙ omega (arith, length-map places (λ p. store p (get_or final p 0)), length-map places (λ p. keep p))

module _ (old final before : List ℕ) (guard closed : ℕ) (rest : List ℕ) (ok : IsGuarded old final before guard rest) where
  abbrev first : List Step
  first = group final before

  abbrev shut : List Step
  shut = written guard closed

  abbrev second : List Step
  second = group final rest

  abbrev open' : List Step
  open' = written guard (get_or final guard 0)

  seen_settled : (P : ℕ → Type 0) (i : ℕ) → P (get_or old i 0) → P (seen_at (settled old) i)
  seen_settled P i h = subst P (sym (seen_is old i)) h

  -- a word that the change doesn't touch
  untouched : (i n : ℕ) → NotIn before i → NotIn rest i → i ≢ guard → Holds (λ v. v ≡ get_or old i 0) i (after (settled old) (take n (guarded final before guard closed rest)))
  untouched i n out_before out_rest other =
      let P : ℕ → Type 0 = λ v. v ≡ get_or old i 0 in
      stays P i (take n (guarded final before guard closed rest)) (settled old)
      (All-take (Fits P i) n (guarded final before guard closed rest)
      (All-append (Fits P i) first (shut ++ (second ++ open')) (group_misses P i final before out_before)
      (All-append (Fits P i) shut (second ++ open') (written_fits P i guard closed (λ e. absurd (other (sym e))))
      (All-append (Fits P i) second open' (group_misses P i final rest out_rest)
      (written_fits P i guard (get_or final guard 0) (λ e. absurd (other (sym e))))))))
      (record { seen = seen_settled P i refl; kept = refl })

  abbrev front : List Step
  front = first ++ shut

  abbrev all : List Step
  all = guarded final before guard closed rest

  regrouped : all ≡ front ++ (second ++ open')
  regrouped = sym (append_assoc first shut (second ++ open'))

  length_front : length front ≡ length first + 2
  length_front = length-append first shut

  length_all : length all ≡ length first + 2 + (length second + 2)
  length_all = ap length regrouped ∙ length-append front (second ++ open') ∙ omega (arith, length_front, length-append second open')

  settled_sized : IsSized (settled old)
  settled_sized = record { same = length-replicate (length old) None }

  sized : (steps : List Step) → IsSized (after (settled old) steps)
  sized steps = sized_after steps (settled old) settled_sized

  inside : (i : ℕ) (steps : List Step) → i < length old → i < length (after (settled old) steps).kept
  inside i steps lt = omega (arith, length_kept steps (settled old))

  left_length : (n : ℕ) (left : List ℕ) → IsLeftAfter old all n left → length left ≡ length old
  left_length n left cut = cut.same_length ∙ length_kept (take n all) (settled old)

  left_untouched : (n : ℕ) (left : List ℕ) → IsLeftAfter old all n left → (i : ℕ) → NotIn before i → NotIn rest i → i ≢ guard → get_or left i 0 ≡ get_or old i 0
  left_untouched n left cut i out_before out_rest other = left_holds (λ v. v ≡ get_or old i 0) i (after (settled old) (take n all)) left (untouched i n out_before out_rest other) cut

  -- ---- up to the step that keeps the guard closed

  early_take : (n : ℕ) → n ≤ length first + 2 → take n all ≡ take n front
  early_take n le = ap (take n) regrouped ∙ take-append-le n front (second ++ open') (omega (arith, length_front))

  early_same : (n i : ℕ) → n ≤ length first + 2 → NotIn before i → i ≢ guard → Holds (λ v. v ≡ get_or old i 0) i (after (settled old) (take n all))
  early_same n i le out other =
      let P : ℕ → Type 0 = λ v. v ≡ get_or old i 0 in
      subst (λ steps. Holds P i (after (settled old) steps)) (sym (early_take n le))
      (stays P i (take n front) (settled old)
      (All-take (Fits P i) n front (All-append (Fits P i) first shut (group_misses P i final before out) (written_fits P i guard closed (λ e. absurd (other (sym e))))))
      (record { seen = seen_settled P i refl; kept = refl }))

  early_guard : (n : ℕ) → n ≤ length first + 2 → Holds (λ v. (v ≡ get_or old guard 0) ⊎ (v ≡ closed)) guard (after (settled old) (take n all))
  early_guard n le =
      let P : ℕ → Type 0 = λ v. (v ≡ get_or old guard 0) ⊎ (v ≡ closed) in
      subst (λ steps. Holds P guard (after (settled old) steps)) (sym (early_take n le))
      (stays P guard (take n front) (settled old)
      (All-take (Fits P guard) n front (All-append (Fits P guard) first shut (group_misses P guard final before ok.before_apart) (written_fits P guard guard closed (λ e. inr refl))))
      (record { seen = seen_settled P guard (inl refl); kept = inl refl }))

  early_cut : (n : ℕ) (left : List ℕ) → n ≤ length first + 2 → IsLeftAfter old all n left → IsOld old before guard closed rest left
  early_cut n left le cut =
      elim (left_holds (λ v. (v ≡ get_or old guard 0) ⊎ (v ≡ closed)) guard (after (settled old) (take n all)) left (early_guard n le) cut) [
        | inl e ↦ inl (record {
          same_length = left_length n left cut;
          same = λ i out. elim (cases_eq i guard) [
            | inl same ↦ ap (λ (k : ℕ). get_or left k 0) same ∙ e ∙ ap (λ (k : ℕ). get_or old k 0) (sym same)
            | inr other ↦ left_holds (λ v. v ≡ get_or old i 0) i (after (settled old) (take n all)) left (early_same n i le out other) cut
          ];
        })
        | inr e ↦ inr (record { same_length = left_length n left cut; shut = e; same = left_untouched n left cut })
      ]

  -- ---- from there on

  abbrev mid : Words
  mid = after (settled old) front

  mid_shut : Holds (λ v. v ≡ closed) guard mid
  mid_shut = subst (Holds (λ v. v ≡ closed) guard) (sym (after-append first shut (settled old)))
      (written_reaches guard closed (after (settled old) first) (sized first) (inside guard first ok.guard_in))

  late_take : (m : ℕ) → after (settled old) (take (length first + 2 + m) all) ≡ after mid (take m (second ++ open'))
  late_take m =
      ap (λ (k : ℕ). after (settled old) (take k all)) (omega (arith, length_front))
      ∙ ap (λ steps. after (settled old) (take (length front + m) steps)) regrouped
      ∙ ap (after (settled old)) (take-append-add front (second ++ open') m) ∙ after-append front (take m (second ++ open')) (settled old)

  middle_cut : (m : ℕ) (left : List ℕ) → m ≤ length second → IsLeftAfter old all (length first + 2 + m) left → IsClosed old before guard closed rest left
  middle_cut m left le cut =
      let P : ℕ → Type 0 = λ v. v ≡ closed in
      let h : Holds P guard (after mid (take m (second ++ open'))) =
      subst (λ steps. Holds P guard (after mid steps)) (sym (take-append-le m second open' le))
      (stays P guard (take m second) mid (All-take (Fits P guard) m second (group_misses P guard final rest ok.rest_apart)) mid_shut) in
      record {
        same_length = left_length (length first + 2 + m) left cut;
        shut = left_holds P guard (after (settled old) (take (length first + 2 + m) all)) left (subst (Holds P guard) (sym (late_take m)) h) cut;
        same = left_untouched (length first + 2 + m) left cut;
      }

  -- ---- when the groups are done

  late_seam : (k : ℕ) → after (settled old) (take (length first + 2 + (length second + k)) all) ≡ after (after mid second) (take k open')
  late_seam k = late_take (length second + k) ∙ ap (after mid) (take-append-add second open' k) ∙ after-append second (take k open') mid

  abbrev AtEnd : ℕ → ℕ → Type 0
  AtEnd i v = v ≡ get_or final i 0

  end_fits : (i k : ℕ) → All (Fits (AtEnd i) i) (take k open')
  end_fits i k = All-take (Fits (AtEnd i) i) k open' (written_fits (AtEnd i) i guard (get_or final guard 0) (λ e. ap (λ (p : ℕ). get_or final p 0) e))

  finished_before : (i j k : ℕ) → j < length before → get_or before j 0 ≡ i → Holds (AtEnd i) i (after (after mid second) (take k open'))
  finished_before i j k lt e =
      let reached : Holds (AtEnd i) i (after (settled old) first) =
      subst (λ (q : ℕ). Holds (AtEnd q) q (after (settled old) first)) e
      (group_reaches final before j (settled old) settled_sized lt (ok.before_in j 0 lt)) in
      let other : guard ≢ i = λ g. ok.before_apart j 0 lt (e ∙ sym g) in
      let at_mid : Holds (AtEnd i) i mid =
      subst (Holds (AtEnd i) i) (sym (after-append first shut (settled old)))
      (stays (AtEnd i) i shut (after (settled old) first) (written_fits (AtEnd i) i guard closed (λ g. absurd (other g))) reached) in
      stays (AtEnd i) i (take k open') (after mid second) (end_fits i k)
      (stays (AtEnd i) i second mid (group_finishes i final rest) at_mid)

  finished_rest : (i j k : ℕ) → j < length rest → get_or rest j 0 ≡ i → Holds (AtEnd i) i (after (after mid second) (take k open'))
  finished_rest i j k lt e =
      stays (AtEnd i) i (take k open') (after mid second) (end_fits i k)
      (subst (λ (q : ℕ). Holds (AtEnd q) q (after mid second)) e
      (group_reaches final rest j mid (sized front) lt (inside (get_or rest j 0) front (ok.rest_in j 0 lt))))

  finished : (i k : ℕ) (left : List ℕ) → i ≢ guard → IsLeftAfter old all (length first + 2 + (length second + k)) left → get_or left i 0 ≡ get_or final i 0
  finished i k left other cut =
      let n : ℕ = length first + 2 + (length second + k) in
      let from : Holds (AtEnd i) i (after (after mid second) (take k open')) → get_or left i 0 ≡ get_or final i 0 =
      λ h. left_holds (AtEnd i) i (after (settled old) (take n all)) left (subst (Holds (AtEnd i) i) (sym (late_seam k)) h) cut in
      elim (among before i) [
        | here j lt e ↦ from (finished_before i j k lt e)
        | away out_before ↦ elim (among rest i) [
          | here j lt e ↦ from (finished_rest i j k lt e)
          | away out_rest ↦ left_untouched n left cut i out_before out_rest other ∙ sym (ok.outside i out_before out_rest other)
        ]
      ]

  guard_last : (k : ℕ) → Holds (λ v. (v ≡ closed) ⊎ (v ≡ get_or final guard 0)) guard (after (after mid second) (take k open'))
  guard_last k =
      let P : ℕ → Type 0 = λ v. (v ≡ closed) ⊎ (v ≡ get_or final guard 0) in
      stays P guard (take k open') (after mid second) (All-take (Fits P guard) k open' (written_fits P guard guard (get_or final guard 0) (λ e. inr refl)))
      (stays P guard second mid (group_misses P guard final rest ok.rest_apart) (record { seen = inl mid_shut.seen; kept = inl mid_shut.kept }))

  all_final : (k : ℕ) (left : List ℕ) → get_or left guard 0 ≡ get_or final guard 0 → IsLeftAfter old all (length first + 2 + (length second + k)) left → left ≡ final
  all_final k left e cut =
      ext_get_or 0 left final (left_length (length first + 2 + (length second + k)) left cut ∙ sym ok.same_length)
      (λ i lt. elim (cases_eq i guard) [
        | inl same ↦ ap (λ (q : ℕ). get_or left q 0) same ∙ e ∙ ap (λ (q : ℕ). get_or final q 0) (sym same)
        | inr other ↦ finished i k left other cut
      ])

  last_cut : (left : List ℕ) → IsLeftAfter old all (length first + 2 + (length second + 1)) left → IsOld old before guard closed rest left ⊎ (left ≡ final)
  last_cut left cut =
      let n : ℕ = length first + 2 + (length second + 1) in
      elim (left_holds (λ v. (v ≡ closed) ⊎ (v ≡ get_or final guard 0)) guard (after (settled old) (take n all)) left
      (subst (Holds (λ v. (v ≡ closed) ⊎ (v ≡ get_or final guard 0)) guard) (sym (late_seam 1)) (guard_last 1)) cut) [
        | inl e ↦ inl (inr (record { same_length = left_length n left cut; shut = e; same = left_untouched n left cut }))
        | inr e ↦ inr (all_final 1 left e cut)
      ]

  done_cut : (left : List ℕ) → IsLeftAfter old all (length first + 2 + (length second + 2)) left → left ≡ final
  done_cut left cut =
      let n : ℕ = length first + 2 + (length second + 2) in
      let reached : Holds (AtEnd guard) guard (after (after mid second) open') =
      written_reaches guard (get_or final guard 0) (after mid second)
      (sized_after second mid (sized front)) (omega (arith, length_kept second mid, inside guard front ok.guard_in)) in
      all_final 2 left (left_holds (AtEnd guard) guard (after (settled old) (take n all)) left (subst (Holds (AtEnd guard) guard) (sym (late_seam 2)) reached) cut) cut

  -- every crash during a guarded change
  pub whole : (n : ℕ) (left : List ℕ) → IsLeftAfter old all n left → IsWhole old final before guard closed rest n left
  whole n left cut =
      record {
        early = λ lt. elim (cases_lt n (length first + 2)) [
          | inl low ↦ early_cut n left (omega arith) cut
          | inr high ↦ inr (middle_cut (n - (length first + 2)) left (omega (arith, length_all)) (subst (λ (k : ℕ). IsLeftAfter old all k left) (omega arith) cut))
        ];
        last = λ e. last_cut left (subst (λ (k : ℕ). IsLeftAfter old all k left) (omega (arith, length_all)) cut);
        done = λ le. done_cut left (subst (λ steps. IsLeft (after (settled old) steps) left)
            (take_all n all le ∙ sym (take_all (length first + 2 + (length second + 2)) all (omega (arith, length_all)))) cut);
      }

  -- after all steps each word has its final value, kept
  end_held : (i : ℕ) → Holds (AtEnd i) i (after (after mid second) open')
  end_held i =
      elim (cases_eq i guard) [
        | inl same ↦ subst (λ (q : ℕ). Holds (AtEnd q) q (after (after mid second) open')) (sym same)
            (written_reaches guard (get_or final guard 0) (after mid second)
            (sized_after second mid (sized front)) (omega (arith, length_kept second mid, inside guard front ok.guard_in)))
        | inr other ↦ elim (among before i) [
          | here j lt e ↦ finished_before i j 2 lt e
          | away out_before ↦ elim (among rest i) [
            | here j lt e ↦ finished_rest i j 2 lt e
            | away out_rest ↦
                subst (Holds (AtEnd i) i) (late_seam 2)
                (let h = untouched i (length first + 2 + (length second + 2)) out_before out_rest other in
                let e : get_or old i 0 ≡ get_or final i 0 = sym (ok.outside i out_before out_rest other) in
                record { seen = h.seen ∙ e; kept = h.kept ∙ e })
          ]
        ]
      ]

  -- and none is pending
  settled_clear : (i : ℕ) → Clear i (settled old)
  settled_clear i = settled_none (length old) i

  end_clear : (i : ℕ) → Clear i (after (after mid second) open')
  end_clear i =
      written_clear guard (get_or final guard 0) (after mid second) i
      (group_clear final rest mid i
      (subst (Clear i) (sym (after-append first shut (settled old)))
      (written_clear guard closed (after (settled old) first) i (group_clear final before (settled old) i (settled_clear i)))))

  pub all_settled : after (settled old) all ≡ settled final
  all_settled =
      let last : Words = after (after mid second) open' in
      let is : after (settled old) all ≡ last =
      ap (after (settled old)) (sym (take_all (length first + 2 + (length second + 2)) all (omega (arith, length_all)))) ∙ late_seam 2 in
      let kept_is : last.kept ≡ final =
      ext_get_or 0 last.kept final
      (length_kept open' (after mid second) ∙ length_kept second mid ∙ length_kept front (settled old) ∙ sym ok.same_length) (λ i lt. (end_held i).kept) in
      let stored_is : last.stored ≡ replicate (length final) None =
      ext_get_or None last.stored (replicate (length final) None)
      (length_stored open' (after mid second) ∙ length_stored second mid ∙ length_stored front (settled old)
      ∙ length-replicate (length old) None ∙ sym (length-replicate (length final) None ∙ ok.same_length))
      (λ i lt. end_clear i ∙ sym (settled_none (length final) i)) in
      is ∙ (λ k. record { kept = kept_is k; stored = stored_is k })
