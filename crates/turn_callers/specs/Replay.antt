-- The register of a single thread, and a journal of its calls.
use Rattle.std.specs.Prelude.{◌≡◌, ℕ, ◌<◌, ◌≤◌, List, [], ◌∷◌, length, Bool, true, ◌&&◌, ◌==◌, filter, Vec}
use Rattle.turn_lock.specs.Rows.{items_at}
use Rattle.turn_callers.specs.declared.register.RegisterCall.{RegisterCall}
use Rattle.turn_callers.specs.declared.register.RegisterCall.TheVariants.{Read, Write}
use Rattle.turn_callers.specs.declared.register.RegisterEntry.{RegisterEntry}

-- the value after a call
abbrev pub value_after : ℕ → RegisterCall → ℕ
value_after v Read = v
value_after v (Write w) = w

-- a call replies the value before it
abbrev pub reply_of : ℕ → RegisterCall → ℕ
reply_of v c = v

-- the value after these entries, from v on
abbrev pub value_of : ℕ → List RegisterEntry → ℕ
value_of v [] = v
value_of v (e ∷ es) = value_of (value_after v e.call) es

-- each reply is the one that a single thread would get, starting from the value v
abbrev pub is_legal : ℕ → List RegisterEntry → Bool
is_legal v [] = true
is_legal v (e ∷ es) = (e.reply == reply_of v e.call) && is_legal (value_after v e.call) es

abbrev pub entry : ℕ → RegisterCall → ℕ → RegisterEntry
entry q c r = record { by = q; call = c; reply = r }

-- the entries of one caller, in their order
abbrev pub entries_by : ℕ → List RegisterEntry → List RegisterEntry
entries_by q es = filter (λ (e : RegisterEntry). e.by == q) es

-- the entries of caller q, if it made these calls and got these replies
abbrev pub made : ℕ → List RegisterCall → List ℕ → List RegisterEntry
made q [] rs = []
made q (c ∷ cs) [] = []
made q (c ∷ cs) (r ∷ rs) = entry q c r ∷ made q cs rs

-- with n callers, the journal has no entry of another number
abbrev pub HasNoOther : ℕ → List RegisterEntry → Type 0
HasNoOther n es = (q : ℕ) → n ≤ q → entries_by q es ≡ []

-- the entries of each caller are the calls of its script, in their order, with its replies
abbrev pub AreOwnEntries : {Y Z : Type 0} → List (Vec RegisterCall Y) → List RegisterEntry → List (Vec ℕ Z) → Type 0
AreOwnEntries scripts es replies = (q : ℕ) → q < length scripts → entries_by q es ≡ made q (items_at scripts q) (items_at replies q)

-- each caller has as many replies as its script has calls
abbrev pub AreAnswered : {X Y Z : Type 0} → List (Vec X Y) → List (Vec ℕ Z) → Type 0
AreAnswered scripts replies = (q : ℕ) → q < length scripts → length (items_at replies q) ≡ length (items_at scripts q)
