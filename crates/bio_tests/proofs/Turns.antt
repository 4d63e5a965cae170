-- What a worker's turn leaves, and how many calls a session may make.
use Rattle.std.proofs.Common.{◌≡◌, ℕ, ◌≤◌, List, refl, arith}
use Rattle.session_parts.specs.declared.parts.Stand.{Stand}
use Rattle.lane_calls.specs.declared.session.Sectors.{Sectors}
use Rattle.lane_calls.specs.declared.session.Session.{Session}
use Rattle.bio_queue.specs.declared.bio.OneTurn.{OneTurn}
use Rattle.bio_queue.specs.declared.bio.OneTurn.TheVariants as turn
use Rattle.bio_queue.specs.Serving.{MayMake}

-- a session that may make n calls may make fewer
pub fewer_calls : (s : Sectors) (sectors width m n : ℕ) (done : List Stand) (session : Session) → m ≤ n → MayMake s sectors width n done session → MayMake s sectors width m done session
fewer_calls s sectors width m n done session le may = record {
  place_in = may.place_in;
  made = may.made;
  going = may.going;
  left = (let a = may.left in omega (arith, a, le));
  later = may.later;
  calls = (let a = may.calls in omega (arith, a, le));
  no_fuse = may.no_fuse;
  sectors_are = may.sectors_are;
  width_is = may.width_is;
}

pub by_turn : {P : Type 0} (t : OneTurn) → (t ≡ turn.Served → P) → (t ≡ turn.Empty → P) → (t ≡ turn.Off → P) → P
by_turn turn.Served s e o = s refl
by_turn turn.Empty s e o = e refl
by_turn turn.Off s e o = o refl
