-- Worked rows: the queue of the picture in src/lib.rt. Items are numbers.
use Rattle.std.proofs.Common.{◌≡◌, ℕ, List, [], ◌∷◌, ◌++◌, true, false, refl}
use Rattle.ticket_queue.specs.declared.ticket.Ticket.{Ticket}
use Rattle.ticket_queue.specs.declared.ticket.View.{View}
use Rattle.ticket_queue.specs.Law.{put_by, tickets, taken_by, hand, one, all_from, none_yet, dealt, fresh, both, with_put, with_taken, is_hand_of}
use Rattle.ticket_queue.specs.Parties.{hands_of}
use Rattle.ticket_queue.specs.Account.{times, below, put_at, taken_at, is_at, times_taken}

abbrev by : ℕ → ℕ → Ticket ℕ
by party item = record { party = party; item = item }

-- party 0 puts 0, 1 and 2; party 1 puts 0
abbrev a : Ticket ℕ
a = by 0 0

abbrev b : Ticket ℕ
b = by 0 1

abbrev c : Ticket ℕ
c = by 0 2

abbrev x : Ticket ℕ
x = by 1 0

-- party 2 took two tickets, and two are left
abbrev order : List (ℕ × Ticket ℕ)
order = (2, a) ∷ (2, x) ∷ []

abbrev items : List (Ticket ℕ)
items = b ∷ c ∷ []

abbrev all : List (Ticket ℕ)
all = tickets order ++ items

-- ---- the rule: what each party put and took

zero_put : put_by 0 all ≡ a ∷ b ∷ c ∷ []
zero_put = refl

one_put : put_by 1 all ≡ x ∷ []
one_put = refl

two_put : put_by 2 all ≡ []
two_put = refl

zero_took : taken_by 0 order ≡ []
zero_took = refl

two_took : taken_by 2 order ≡ a ∷ x ∷ []
two_took = refl

-- ---- views

-- party 1's pass is made
maker_then : dealt (all_from {T = ℕ} 1) ≡ all_from 2
maker_then = refl

party_one : fresh (all_from {T = ℕ} 1) ≡ none_yet 1
party_one = refl

-- it puts x
one_now : with_put (none_yet 1) x ≡ one (hand 1 false (x ∷ []) [])
one_now = refl

-- party 2 takes a, then x
two_now : with_taken (with_taken (none_yet 2) a) x ≡ one (hand 2 false [] (a ∷ x ∷ []))
two_now = refl

-- the test of a party's pass: the maker isn't one, and no pass is another party's
is_two : is_hand_of 2 (with_taken (none_yet 2) a) ≡ true
is_two = refl

not_one : is_hand_of 1 (with_taken (none_yet 2) a) ≡ false
not_one = refl

not_the_maker : is_hand_of 2 (all_from {T = ℕ} 2) ≡ false
not_the_maker = refl

-- ---- closing

abbrev passes : List (View ℕ)
passes = one (hand 0 false (a ∷ b ∷ c ∷ []) []) ∷ one (hand 1 false (x ∷ []) []) ∷ one (hand 2 false [] (a ∷ x ∷ [])) ∷ []

one_is_handed_in : both (all_from 3) (one (hand 1 false (x ∷ []) [])) ≡ record { hands = hand 3 true [] [] ∷ hand 1 false (x ∷ []) [] ∷ []; sure = false; known = [] }
one_is_handed_in = refl

all_hands : hands_of passes ≡ hand 0 false (a ∷ b ∷ c ∷ []) [] ∷ hand 1 false (x ∷ []) [] ∷ hand 2 false [] (a ∷ x ∷ []) ∷ []
all_hands = refl

-- ---- the account: party 0 has put three tickets, numbered 0, 1, 2; party 1 has put one

-- number 0 of party 0 was taken once, and isn't left
taken_once : times_taken (λ n. n) passes 0 0 ≡ 1
taken_once = refl

not_left : times (is_at (λ n. n) 0 0) items ≡ 0
not_left = refl

-- number 2 is left, and wasn't taken
not_taken : times_taken (λ n. n) passes 0 2 ≡ 0
not_taken = refl

left_once : times (is_at (λ n. n) 0 2) items ≡ 1
left_once = refl

-- there is no number 3 of party 0, and no number 1 of party 1
below_three : below 2 3 ≡ 1
below_three = refl

not_below_three : below 3 3 ≡ 0
not_below_three = refl

never_put : times_taken (λ n. n) passes 1 1 ≡ 0
never_put = refl

-- what party 2 took, and what a party that there isn't took
two_at : taken_at passes 2 ≡ a ∷ x ∷ []
two_at = refl

five_at : put_at passes 5 ≡ []
five_at = refl
