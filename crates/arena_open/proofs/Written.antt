-- Words that are written in sequence.
use Rattle.std.proofs.Common.{◌≡◌, ℕ, zero, suc, ◌+◌, ◌*◌, ◌<◌, ◌≤◌, Bool, true, false, List, [], ◌∷◌, ◌++◌, length, take, drop, get_or, replicate, Option, Some, None, unwrap_or, refl, sym, ap, ◌∙◌, subst, inl, inr, arith}
use Rattle.std.proofs.Math.ListN.{set}
use Rattle.std.proofs.lemmas.Bool.{cases_lt}
use Rattle.std.proofs.lemmas.List.{ext_get_or, length-set, length-replicate, get_or-set_same, set_past, take_more, drop_more, take-append-drop, take_all}
use Rattle.cut_words.specs.Words.{Words, Step, store, keep, stepped, after, settled}
use Rattle.cut_words.specs.Groups.{written}
use Rattle.cut_words.specs.Fuses.{Makes}
use Rattle.cut_words.proofs.Guarded.{settled_none}
use Rattle.cut_words.proofs.Stays.{written_clear}
use Rattle.cut_words.proofs.Making.{makes_both, makes_cut, makes_all}
use Rattle.arena_open.specs.Writes.{Write, write_steps, written_over, run_at, IsSettled, WritesSettle}

-- ---- one write

write_kept : (old : List ℕ) (i v : ℕ) → set old i (unwrap_or (get_or (set (replicate {A = Option ℕ} (length old) None) i (Some v)) i None) (get_or old i 0)) ≡ set old i v
write_kept old i v = elim (cases_lt i (length old)) [
  | inl lt ↦ ap (λ (o : Option ℕ). set old i (unwrap_or o (get_or old i 0)))
      (get_or-set_same (replicate {A = Option ℕ} (length old) None) i (Some v) None (omega (arith, length-replicate {A = Option ℕ} (length old) None)))
  | inr past ↦ set_past old i (unwrap_or (get_or (set (replicate {A = Option ℕ} (length old) None) i (Some v)) i None) (get_or old i 0)) past ∙ sym (set_past old i v past)
]

write_stored : (old : List ℕ) (i v : ℕ) → set (set (replicate {A = Option ℕ} (length old) None) i (Some v)) i None ≡ replicate (length (set old i v)) None
unfolding after
write_stored old i v =
    let inner : List (Option ℕ) = set (replicate {A = Option ℕ} (length old) None) i (Some v) in
    ext_get_or None (set (set (replicate {A = Option ℕ} (length old) None) i (Some v)) i None) (replicate (length (set old i v)) None)
    (length-set (set (replicate {A = Option ℕ} (length old) None) i (Some v)) i None ∙ length-set (replicate {A = Option ℕ} (length old) None) i (Some v)
    ∙ length-replicate (length old) None ∙ sym (length-replicate (length (set old i v)) None ∙ length-set old i v))
    (λ j lt. written_clear i v (settled old) j (settled_none (length old) j) ∙ sym (settled_none (length (set old i v)) j))

pub one_write : (old : List ℕ) (i v : ℕ) → stepped (stepped (settled old) (store i v)) (keep i) ≡ settled (set old i v)
one_write old i v =
    let kept_is = write_kept old i v in
    let stored_is = write_stored old i v in
    λ k. record { kept = kept_is k; stored = stored_is k }

-- ---- all

pub writes_settle : WritesSettle
unfolding after
writes_settle old [] = refl
writes_settle old (w ∷ writes) = ap (λ (ws : Words). after ws (write_steps writes)) (one_write old w.place w.value) ∙ writes_settle (set old w.place w.value) writes

pub made_settled : (w w1 : Words) (f f1 : Option ℕ) (writes : List Write) → IsSettled w → Makes w w1 f f1 (write_steps writes) true → w1 ≡ settled (written_over w.kept writes)
made_settled w w1 f f1 writes was made =
    makes_all w w1 f f1 (write_steps writes) made ∙ ap (λ (ws : Words). after ws (write_steps writes)) was ∙ writes_settle w.kept writes

pub made_clear : (w w1 : Words) (f f1 : Option ℕ) (writes : List Write) (i : ℕ) → IsSettled w → Makes w w1 f f1 (write_steps writes) true → get_or w1.stored i None ≡ None
made_clear w w1 f f1 writes i was made =
    ap (λ (ws : Words). get_or ws.stored i None) (made_settled w w1 f f1 writes was made) ∙ settled_none (length (written_over w.kept writes)) i

-- after completed writes no word is pending
pub made_is_settled : (w w1 : Words) (f f1 : Option ℕ) (writes : List Write) → IsSettled w → Makes w w1 f f1 (write_steps writes) true → IsSettled w1
made_is_settled w w1 f f1 writes was made =
    let e = made_settled w w1 f f1 writes was made in
    e ∙ ap settled (sym (ap (λ (ws : Words). ws.kept) e))

-- ---- lists of writes

pub steps-append : (xs ys : List Write) → write_steps (xs ++ ys) ≡ write_steps xs ++ write_steps ys
steps-append [] ys = refl
steps-append (x ∷ xs) ys = ap (λ (s : List Step). store x.place x.value ∷ keep x.place ∷ s) (steps-append xs ys)

pub over-append : (old : List ℕ) (xs ys : List Write) → written_over old (xs ++ ys) ≡ written_over (written_over old xs) ys
over-append old [] ys = refl
over-append old (x ∷ xs) ys = over-append (set old x.place x.value) xs ys

pub length_over : (old : List ℕ) (writes : List Write) → length (written_over old writes) ≡ length old
length_over old [] = refl
length_over old (w ∷ writes) = length_over (set old w.place w.value) writes ∙ length-set old w.place w.value

pub length_steps : (writes : List Write) → length (write_steps writes) ≡ 2 * length writes
length_steps [] = refl
length_steps (w ∷ writes) = omega (arith, length_steps writes)

pub length_run : (base : ℕ) (values : List ℕ) → length (run_at base values) ≡ length values
length_run base [] = refl
length_run base (v ∷ values) = ap suc (length_run (base + 1) values)

abbrev pub no_write : Write
no_write = record { place = 0; value = 0 }

pub run_index : (base : ℕ) (values : List ℕ) (i : ℕ) → i < length values → get_or (run_at base values) i no_write ≡ record { place = base + i; value = get_or values i 0 }
run_index base [] i lt = absurd (omega arith)
run_index base (v ∷ values) zero lt = λ k. record { place = (let e : base ≡ base + 0 = omega arith in e) k; value = v }
run_index base (v ∷ values) (suc i) lt =
    run_index (base + 1) values i (omega arith) ∙ (λ k. record { place = (let e : base + 1 + i ≡ base + suc i = omega arith in e) k; value = get_or values i 0 })

-- ---- steps that are made write by write

steps_more : (ws : List Write) (i : ℕ) → i < length ws
    → write_steps (take (i + 1) ws) ≡ write_steps (take i ws) ++ written (get_or ws i no_write).place (get_or ws i no_write).value
steps_more ws i lt = ap write_steps (take_more ws i no_write lt) ∙ steps-append (take i ws) (get_or ws i no_write ∷ [])

steps_all : (ws : List Write) (i : ℕ) → i < length ws
    → write_steps ws ≡ write_steps (take i ws) ++ (written (get_or ws i no_write).place (get_or ws i no_write).value ++ write_steps (drop (i + 1) ws))
steps_all ws i lt =
    ap write_steps (sym (take-append-drop i ws)) ∙ steps-append (take i ws) (drop i ws)
    ∙ ap (λ (r : List Write). write_steps (take i ws) ++ write_steps r) (drop_more ws i no_write lt)

pub writes_on : (w w1 w2 : Words) (f f1 f2 : Option ℕ) (ws : List Write) (i : ℕ) (made : Bool) → i < length ws → Makes w w1 f f1 (write_steps (take i ws)) true
    → Makes w1 w2 f1 f2 (written (get_or ws i no_write).place (get_or ws i no_write).value) made → Makes w w2 f f2 (write_steps (take (i + 1) ws)) made
writes_on w w1 w2 f f1 f2 ws i made lt a b =
    subst (λ (s : List Step). Makes w w2 f f2 s made) (sym (steps_more ws i lt))
    (makes_both w w1 w2 f f1 f2 (write_steps (take i ws)) (written (get_or ws i no_write).place (get_or ws i no_write).value) made a b)

pub writes_stop : (w w1 w2 : Words) (f f1 f2 : Option ℕ) (ws : List Write) (i : ℕ) → i < length ws → Makes w w1 f f1 (write_steps (take i ws)) true
    → Makes w1 w2 f1 f2 (written (get_or ws i no_write).place (get_or ws i no_write).value) false → Makes w w2 f f2 (write_steps ws) false
writes_stop w w1 w2 f f1 f2 ws i lt a b =
    let one : List Step = written (get_or ws i no_write).place (get_or ws i no_write).value in
    subst (λ (s : List Step). Makes w w2 f f2 s false) (sym (steps_all ws i lt))
    (makes_both w w1 w2 f f1 f2 (write_steps (take i ws)) (written (get_or ws i no_write).place (get_or ws i no_write).value ++ write_steps (drop (i + 1) ws)) false a
    (makes_cut w1 w2 f1 f2 (written (get_or ws i no_write).place (get_or ws i no_write).value) (write_steps (drop (i + 1) ws)) b))

-- ---- a run of them

run_step : (w1 w2 : Words) (f1 f2 : Option ℕ) (base : ℕ) (values : List ℕ) (i v : ℕ) (made : Bool) → i < length values → v ≡ get_or values i 0
    → Makes w1 w2 f1 f2 (written (base + i) v) made
    → Makes w1 w2 f1 f2 (written (get_or (run_at base values) i no_write).place (get_or (run_at base values) i no_write).value) made
run_step w1 w2 f1 f2 base values i v made lt is b =
    let b' : Makes w1 w2 f1 f2 (written (base + i) (get_or values i 0)) made = subst (λ (x : ℕ). Makes w1 w2 f1 f2 (written (base + i) x) made) is b in
    subst (λ (x : Write). Makes w1 w2 f1 f2 (written x.place x.value) made) (sym (run_index base values i lt)) b'

pub run_on : (w w1 w2 : Words) (f f1 f2 : Option ℕ) (base : ℕ) (values : List ℕ) (i v : ℕ) (made : Bool) → i < length values → v ≡ get_or values i 0
    → Makes w w1 f f1 (write_steps (take i (run_at base values))) true → Makes w1 w2 f1 f2 (written (base + i) v) made
    → Makes w w2 f f2 (write_steps (take (i + 1) (run_at base values))) made
run_on w w1 w2 f f1 f2 base values i v made lt is a b =
    writes_on w w1 w2 f f1 f2 (run_at base values) i made (omega (arith, length_run base values)) a (run_step w1 w2 f1 f2 base values i v made lt is b)

pub run_stop : (w w1 w2 : Words) (f f1 f2 : Option ℕ) (base : ℕ) (values : List ℕ) (i v : ℕ) → i < length values → v ≡ get_or values i 0
    → Makes w w1 f f1 (write_steps (take i (run_at base values))) true → Makes w1 w2 f1 f2 (written (base + i) v) false
    → Makes w w2 f f2 (write_steps (run_at base values)) false
run_stop w w1 w2 f f1 f2 base values i v lt is a b =
    writes_stop w w1 w2 f f1 f2 (run_at base values) i (omega (arith, length_run base values)) a (run_step w1 w2 f1 f2 base values i v false lt is b)

pub run_end : (w w1 : Words) (f f1 : Option ℕ) (base : ℕ) (values : List ℕ) (i : ℕ) → length values ≤ i → Makes w w1 f f1 (write_steps (take i (run_at base values))) true
    → Makes w w1 f f1 (write_steps (run_at base values)) true
run_end w w1 f f1 base values i le a =
    subst (λ (ws : List Write). Makes w w1 f f1 (write_steps ws) true) (take_all i (run_at base values) (omega (arith, length_run base values))) a

-- ---- one list after another

pub made_then : (w w1 w2 : Words) (f f1 f2 : Option ℕ) (xs ys : List Write) (made : Bool) → Makes w w1 f f1 (write_steps xs) true → Makes w1 w2 f1 f2 (write_steps ys) made
    → Makes w w2 f f2 (write_steps (xs ++ ys)) made
made_then w w1 w2 f f1 f2 xs ys made a b =
    subst (λ (s : List Step). Makes w w2 f f2 s made) (sym (steps-append xs ys)) (makes_both w w1 w2 f f1 f2 (write_steps xs) (write_steps ys) made a b)

pub made_part : (w w1 : Words) (f f1 : Option ℕ) (xs ys : List Write) → Makes w w1 f f1 (write_steps xs) false → Makes w w1 f f1 (write_steps (xs ++ ys)) false
made_part w w1 f f1 xs ys a =
    subst (λ (s : List Step). Makes w w1 f f1 s false) (sym (steps-append xs ys)) (makes_cut w w1 f f1 (write_steps xs) (write_steps ys) a)
