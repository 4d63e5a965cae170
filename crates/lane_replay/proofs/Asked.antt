-- What a schedule asks of the lanes leaves what the schedule leaves, and it fits the arena.
use Rattle.std.proofs.Common.{◌≡◌, ℕ, zero, suc, ◌+◌, ◌*◌, ◌<◌, ◌==◌, nat_le, nat_lt, if◌then◌else◌, Bool, true, false, List, [], ◌∷◌, ◌++◌, length, slice_get, Option, Some, None, refl, sym, ap, ◌∙◌, subst, arith}
use Rattle.std.specs.List.{AllByRecursion}
use Rattle.std.proofs.lemmas.Bool.{eqb-true, leb-false}
use Rattle.std.proofs.lemmas.List.{nil_from_length}
use Rattle.cut_words.specs.WordBytes.{words_in}
use Rattle.lane_core.specs.declared.now.LaneNow.{LaneNow}
use Rattle.lane_core.specs.declared.phase.Phase.{Phase}
use Rattle.lane_core.specs.declared.shape.Shape.{Shape}
use Rattle.lane_core.specs.Arenas.{shape_in}
use Rattle.lane_core.specs.Begins.{is_idle}
use Rattle.lane_core.specs.Held.{Held}
use Rattle.lane_core.specs.Schedules.{Asked, Read as AskRead, Write as AskWrite, Step as AskStep, FitsShape, Played as Asking, held_after, if_there, lane_begun, opened_held, played as asking, played_one, with_lane}
use Rattle.lane_core.proofs.Scheduling.{schedules_stand}
use Rattle.session_script.specs.declared.payload.Payload.{Payload}
use Rattle.session_script.specs.declared.schedule.ReplayLine.{ReplayLine}
use Rattle.session_script.specs.declared.schedule.ReplayLine.TheVariants.{Read, Write, Step}
use Rattle.lane_replay.specs.declared.refused.Refused.{Refused}
use Rattle.lane_replay.specs.Lanes.{answered, lane_changed, phase_at, phase_by, stepped}
use Rattle.lane_replay.specs.Steps.{steps, was_said}
use Rattle.lane_replay.specs.Calls.{busy, bytes_said, held_unless, line_tag, misfit, or_else, read_called, read_refusal, sector_bytes, unplaced, write_called, write_refusal}
use Rattle.lane_replay.specs.Playing.{played, played_all}
use Rattle.lane_replay.specs.Asking.{ReplaysStand, asked_all, asked_by, asked_steps, asked_unless}

-- ---- what is held

held_all : Held → List Asked → Held
held_all held [] = held
held_all held (a ∷ more) = held_all (held_after held a) more

one_held : (now : Asking) (a : Asked) → (played_one now a).held ≡ held_after now.held a
one_held now (AskRead lane tag sector) = refl
one_held now (AskWrite lane tag sector words) = refl
one_held now (AskStep lane) = refl

asking_held : (now : Asking) (asked : List Asked) → (asking now asked).held ≡ held_all now.held asked
unfolding asking held_all
asking_held now [] = refl
asking_held now (a ∷ more) = asking_held (played_one now a) more ∙ ap (λ h. held_all h more) (one_held now a)

held_append : (held : Held) (xs ys : List Asked) → held_all held (xs ++ ys) ≡ held_all (held_all held xs) ys
unfolding held_all
held_append held [] ys = refl
held_append held (x ∷ xs) ys = held_append (held_after held x) xs ys

steps_held : (n lane : ℕ) (said : Bool) (held : Held) → (steps n lane said held).held ≡ held_all held (asked_steps n lane)
unfolding steps stepped held_all
steps_held zero lane said held = refl
steps_held (suc n) lane said held = steps_held n lane (was_said said (answered held lane)) (stepped held lane)

begun_by : (held : Held) (l : ℕ) (f : LaneNow → LaneNow) (o : Option LaneNow) → is_idle (phase_by o) ≡ true → if_there held (λ p. with_lane held l (f p)) o ≡ if_there held (lane_begun held l f) o
begun_by held l f None e = refl
begun_by held l f (Some p) e = sym (ap (λ b. if b then with_lane held l (f p) else held) e)

begun_is : (held : Held) (l : ℕ) (f : LaneNow → LaneNow) → is_idle (phase_at held l) ≡ true → lane_changed held l f ≡ if_there held (lane_begun held l f) (slice_get held.lanes l)
unfolding lane_changed phase_at
begun_is held l f e = begun_by held l f (slice_get held.lanes l) e

unless_held : (held : Held) (l : ℕ) (f : LaneNow → LaneNow) (a : Asked) (why : Option Refused) → (why ≡ None → lane_changed held l f ≡ held_after held a) → held_unless held l f why ≡ held_all held (asked_unless a why)
unfolding held_all
unless_held held l f a None h = h refl
unless_held held l f a (Some why) h = refl

-- ---- what isn't refused

neither : (a b : Option Refused) → or_else a b ≡ None → (a ≡ None) × (b ≡ None)
neither None b e = (refl, e)
neither (Some why) b e = absurd (let e : Some why ≡ None = e in cc)

true_by : (b : Bool) (why : Refused) → (if b then None else Some why) ≡ None → b ≡ true
true_by true why e = refl
true_by false why e = absurd (let e : Some why ≡ None = e in cc)

not_busy : (phase : Phase) → busy phase ≡ None → is_idle phase ≡ true
not_busy phase e = true_by (is_idle phase) _ e

second_by : (a b : Bool) (u v : Refused) → (if a then Some u else if b then Some v else None) ≡ None → b ≡ false
second_by true b u v e = absurd (let e : Some u ≡ None = e in cc)
second_by false true u v e = absurd (let e : Some v ≡ None = e in cc)
second_by false false u v e = refl

has_sector : (x : Shape) (lane sector : ℕ) → unplaced x lane sector ≡ None → sector < x.sectors
has_sector x lane sector e = leb-false x.sectors sector (second_by (nat_le x.lanes lane) (nat_le x.sectors sector) _ _ e)

has_length : (said had : ℕ) → misfit said had ≡ None → said ≡ had
has_length said had e = eqb-true said had (true_by (said == had) _ e)

words_length : (n : ℕ) (bytes : List ℕ) → length bytes ≡ 8 * n → length (words_in bytes) ≡ n
words_length zero bytes e = ap (λ bs. length (words_in bs)) (nil_from_length bytes e)
words_length (suc n) (a ∷ b ∷ c ∷ d ∷ e ∷ f ∷ g ∷ h ∷ bytes) is = ap suc (words_length n bytes (omega arith))
words_length (suc n) _ is = absurd (omega arith)

-- ---- lines

read_is : (held : Held) (number lane sector : ℕ) → read_refusal held lane sector ≡ None
    → lane_changed held lane (read_called held.shape (line_tag lane number) sector) ≡ held_after held (AskRead lane (line_tag lane number) sector)
read_is held number lane sector e = begun_is held lane (read_called held.shape (line_tag lane number) sector) (not_busy (phase_at held lane) (neither (unplaced held.shape lane sector) _ e).1)

write_is : (held : Held) (number lane sector : ℕ) (value : Payload) → write_refusal held lane sector (length (bytes_said (sector_bytes held.shape) value)) ≡ None
    → lane_changed held lane (write_called held.shape (line_tag lane number) sector value) ≡ held_after held (AskWrite lane (line_tag lane number) sector (words_in (bytes_said (sector_bytes held.shape) value)))
write_is held number lane sector value e =
    begun_is held lane (write_called held.shape (line_tag lane number) sector value)
    (not_busy (phase_at held lane) (neither (misfit (length (bytes_said (sector_bytes held.shape) value)) (sector_bytes held.shape)) _ (neither (unplaced held.shape lane sector) _ e).1).1)

steps_by : (b : Bool) (held : Held) (lane count : ℕ) (other : List ℕ) → (if b then steps count lane false held else record { held = held; text = other }).held ≡ held_all held (if b then asked_steps count lane else [])
unfolding held_all
steps_by true held lane count other = steps_held count lane false held
steps_by false held lane count other = refl

line_held : (held : Held) (number : ℕ) (line : ReplayLine) → (played held number line).held ≡ held_all held (asked_by held number line)
line_held held number (Read lane sector) = unless_held held lane _ _ (read_refusal held lane sector) (read_is held number lane sector)
line_held held number (Write lane sector value) =
    unless_held held lane _ _ (write_refusal held lane sector (length (bytes_said (sector_bytes held.shape) value))) (write_is held number lane sector value)
line_held held number (Step lane count) = steps_by (nat_lt lane held.shape.lanes) held lane count _

all_held : (number : ℕ) (held : Held) (lines : List ReplayLine) → (played_all number held lines).held ≡ held_all held (asked_all number held lines)
unfolding played_all asked_all held_all
all_held number held [] = refl
all_held number held (line ∷ lines) =
    let rest = asked_all (number + 1) (played held number line).held lines in
    all_held (number + 1) (played held number line).held lines ∙ ap (λ h. held_all h rest) (line_held held number line) ∙ sym (held_append held (asked_by held number line) rest)

-- ---- what is asked fits

there_shape : (held : Held) (f : LaneNow → Held) (o : Option LaneNow) → ((p : LaneNow) → (f p).shape ≡ held.shape) → (if_there held f o).shape ≡ held.shape
there_shape held f None h = refl
there_shape held f (Some p) h = h p

begun_shape : (held : Held) (l : ℕ) (q : LaneNow) (b : Bool) → (if b then with_lane held l q else held).shape ≡ held.shape
begun_shape held l q true = refl
begun_shape held l q false = refl

after_shape : (held : Held) (a : Asked) → (held_after held a).shape ≡ held.shape
after_shape held (AskRead lane tag sector) = there_shape held _ (slice_get held.lanes lane) (λ p. begun_shape held lane _ (is_idle p.phase))
after_shape held (AskWrite lane tag sector words) = there_shape held _ (slice_get held.lanes lane) (λ p. begun_shape held lane _ (is_idle p.phase))
after_shape held (AskStep lane) = there_shape held _ (slice_get held.lanes lane) (λ p. refl)

all_shape : (held : Held) (asked : List Asked) → (held_all held asked).shape ≡ held.shape
unfolding held_all
all_shape held [] = refl
all_shape held (a ∷ more) = all_shape (held_after held a) more ∙ after_shape held a

fit_append : (x : Shape) (xs ys : List Asked) → AllByRecursion (FitsShape x) xs → AllByRecursion (FitsShape x) ys → AllByRecursion (FitsShape x) (xs ++ ys)
fit_append x [] ys h k = k
fit_append x (a ∷ xs) ys h k = (h.0, fit_append x xs ys h.1 k)

fit_unless : (x : Shape) (a : Asked) (why : Option Refused) → (why ≡ None → FitsShape x a) → AllByRecursion (FitsShape x) (asked_unless a why)
fit_unless x a None h = (h refl, tt)
fit_unless x a (Some why) h = tt

fit_steps : (x : Shape) (n lane : ℕ) → AllByRecursion (FitsShape x) (asked_steps n lane)
fit_steps x zero lane = tt
fit_steps x (suc n) lane = (tt, fit_steps x n lane)

fit_if : (x : Shape) (b : Bool) (n lane : ℕ) → AllByRecursion (FitsShape x) (if b then asked_steps n lane else [])
fit_if x true n lane = fit_steps x n lane
fit_if x false n lane = tt

fit_line : (held : Held) (number : ℕ) (line : ReplayLine) → AllByRecursion (FitsShape held.shape) (asked_by held number line)
fit_line held number (Read lane sector) =
    fit_unless held.shape _ (read_refusal held lane sector) (λ e. has_sector held.shape lane sector (neither (unplaced held.shape lane sector) _ e).0)
fit_line held number (Write lane sector value) =
    fit_unless held.shape _ (write_refusal held lane sector (length (bytes_said (sector_bytes held.shape) value)))
    (λ e.
    let first = neither (unplaced held.shape lane sector) _ e in
    let second = neither (misfit (length (bytes_said (sector_bytes held.shape) value)) (sector_bytes held.shape)) _ first.1 in
    (has_sector held.shape lane sector first.0, words_length held.shape.width (bytes_said (sector_bytes held.shape) value) (has_length _ _ second.0)))
fit_line held number (Step lane count) = fit_if held.shape (nat_lt lane held.shape.lanes) count lane

fit_all : (x : Shape) (number : ℕ) (held : Held) (lines : List ReplayLine) → held.shape ≡ x → AllByRecursion (FitsShape x) (asked_all number held lines)
unfolding asked_all
fit_all x number held [] e = tt
fit_all x number held (line ∷ lines) e =
    fit_append x (asked_by held number line) (asked_all (number + 1) (played held number line).held lines)
    (subst (λ x. AllByRecursion (FitsShape x) (asked_by held number line)) e (fit_line held number line))
    (fit_all x (number + 1) (played held number line).held lines (ap (λ (h : Held). h.shape) (line_held held number line) ∙ all_shape held (asked_by held number line) ∙ e))

pub replays_stand : ReplaysStand
replays_stand state lines open_state =
    let asked = asked_all 1 (opened_held state) lines in
    record {
      held = all_held 1 (opened_held state) lines ∙ sym (asking_held (record { held = opened_held state; calls = λ l. AskStep l; answers = [] }) asked);
      stands = schedules_stand state asked open_state (fit_all (shape_in state) 1 (opened_held state) lines refl);
    }
