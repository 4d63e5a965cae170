-- Worked rows, computed: what two or three sessions were told, with a journal and a history in which it stands.
use Rattle.std.proofs.Common.{◌≡◌, inl, inr, ℕ, zero, suc, ◌<◌, List, [], ◌∷◌, Some, None, refl, arith}
use Rattle.namespace_ops.specs.Entries.{JournalEntry}
use Rattle.lane_core.specs.declared.history.Entry.{Entry as HistoryEntry}
use Rattle.session_script.specs.declared.script.Line.TheVariants as line
use Rattle.session_script.specs.declared.payload.Payload.TheVariants as payload
use Rattle.session_account.specs.declared.reply.Reply.{Reply}
use Rattle.session_account.specs.declared.reply.Reply.TheVariants as reply
use Rattle.session_script.specs.declared.script.Script.{Script}
use Rattle.session_account.specs.Serving.{Serving, Shape, IsArena, spot_in}
use Rattle.lane_core.specs.History.{IsLegal, end_of, of_session}
use Rattle.arena_open.specs.declared.cell.Cell.TheVariants as cell
use Rattle.lane_core.specs.declared.history.Act.TheVariants as act
use Rattle.session_account.specs.Survival.{Survives}
use Rattle.session_account.specs.Made.{made_by}
use Rattle.session_account.specs.Sectors.{check_of, IsOfSessions, InHistory, steps_in, own_stands}
use Rattle.session_account.specs.Account.{Accounts, Account, CutHasCause, session_at, replies_at, flights_on}
use Rattle.session_account.proofs.Values.{u, served, zeros, fresh, filled, open_u, close, write, claim, unclaim, wrote, saw, only, session, script}

-- the one arena
pub only_arena : (lanes place k : ℕ) → IsArena (served lanes) place k → (P : ℕ → ℕ → Type 0) → P 0 0 → P place k
only_arena lanes zero zero is P p = p
only_arena lanes zero (suc k) is P p = absurd (omega arith)
only_arena lanes (suc place) k is P p = absurd (omega arith)

-- ---- two sessions: one writes a sector, the other reads another

abbrev two : Script
two = script None (session None (open_u ∷ write 27574 0x14 ∷ close ∷ []) ∷ session None (open_u ∷ line.Read 24565 ∷ close ∷ []) ∷ [])

abbrev two_replies : List (List Reply)
two_replies = (reply.Done ∷ reply.Done ∷ reply.Done ∷ []) ∷ (reply.Done ∷ reply.Value zeros ∷ reply.Done ∷ []) ∷ []

-- the sessions' calls come between one another
abbrev two_journal : List JournalEntry
two_journal = claim 0 0 ∷ claim 1 0 ∷ unclaim 1 2 ∷ unclaim 0 2 ∷ []

abbrev two_history : List HistoryEntry
two_history = saw 1 1 24565 zeros ∷ wrote 0 1 27574 0x14 ∷ []

pub two_legal : IsLegal fresh two_history
unfolding IsLegal
two_legal = (refl, (tt, tt))

pub two_accounts : Accounts (served 256) two two_replies two_journal (only two_history)
unfolding of_session
two_accounts = record {
  count = refl;
  each = each;
  cause = cause;
  no_entry = (omega arith, (omega arith, (omega arith, (omega arith, tt))));
  no_stand = λ place k is. only_arena 256 place k is (λ p n. IsOfSessions 2 (only two_history p n)) (omega arith, (omega arith, tt));
}
  where
    each : (q : ℕ) → q < 2 → Account (served 256) q (session_at two q) (replies_at two_replies q) two_journal (only two_history)
    each zero h = record {
      cut_last = record { few = omega arith; last = refl; all = λ e. refl };
      in_time = λ n e. absurd (cc);
      checked = (λ e. refl, (λ e. refl, (λ e. refl, tt)));
      kinds = (λ e f. refl, (λ e f. refl, (λ e f. refl, tt)));
      commands = record { last = []; entries = refl; is_last = refl };
      arenas = λ place k is. only_arena 256 place k is (λ p n. InHistory (served 256) p n (made_by (session_at two 0).calls (replies_at two_replies 0)) (own_stands 0 (only two_history p n))) (record { last = []; entries = refl; is_last = inl refl });
    }
    each (suc zero) h = record {
      cut_last = record { few = omega arith; last = refl; all = λ e. refl };
      in_time = λ n e. absurd (cc);
      checked = (λ e. refl, (λ e. refl, (λ e. refl, tt)));
      kinds = (λ e f. refl, (λ e f. refl, (λ e f. refl, tt)));
      commands = record { last = []; entries = refl; is_last = refl };
      arenas = λ place k is. only_arena 256 place k is (λ p n. InHistory (served 256) p n (made_by (session_at two 1).calls (replies_at two_replies 1)) (own_stands 1 (only two_history p n))) (record { last = []; entries = refl; is_last = inl refl });
    }
    each (suc (suc q)) h = absurd (omega arith)

    cause : CutHasCause two two_replies two_journal
    cause zero e = absurd (cc)
    cause (suc zero) e = absurd (cc)
    cause (suc (suc q)) e = absurd (cc)

-- ---- a lane for each of three sessions in turn: the second cuts power before its first step on a lane, the third is cut by it

abbrev three : Script
three = script None (session None (open_u ∷ write 0 0x11 ∷ []) ∷ session (Some 0) (open_u ∷ write 0 0x22 ∷ []) ∷ session None (open_u ∷ []) ∷ [])

abbrev three_replies : List (List Reply)
three_replies = (reply.Done ∷ reply.Done ∷ []) ∷ (reply.Done ∷ reply.Cut ∷ []) ∷ (reply.Cut ∷ []) ∷ []

-- the first gives its claim back; the second keeps its own; nothing stands of the third
abbrev three_journal : List JournalEntry
three_journal = claim 0 0 ∷ unclaim 0 2 ∷ claim 1 0 ∷ []

abbrev three_history : List HistoryEntry
three_history = wrote 0 1 0 0x11 ∷ []

pub three_accounts : Accounts (served 1) three three_replies three_journal (only three_history)
unfolding of_session
three_accounts = record {
  count = refl;
  each = each;
  cause = cause;
  no_entry = (omega arith, (omega arith, (omega arith, tt)));
  no_stand = λ place k is. only_arena 1 place k is (λ p n. IsOfSessions 3 (only three_history p n)) (omega arith, tt);
}
  where
    each : (q : ℕ) → q < 3 → Account (served 1) q (session_at three q) (replies_at three_replies q) three_journal (only three_history)
    each zero h = record {
      cut_last = record { few = omega arith; last = refl; all = λ e. refl };
      in_time = λ n e. absurd (cc);
      checked = (λ e. refl, (λ e. refl, tt));
      kinds = (λ e f. refl, (λ e f. refl, tt));
      commands = record { last = unclaim 0 2 ∷ []; entries = refl; is_last = inl refl };
      arenas = λ place k is. only_arena 1 place k is (λ p n. InHistory (served 1) p n (made_by (session_at three 0).calls (replies_at three_replies 0)) (own_stands 0 (only three_history p n))) (record { last = []; entries = refl; is_last = inl refl });
    }
    each (suc zero) h = record {
      cut_last = record { few = omega arith; last = refl; all = λ e. absurd (cc) };
      in_time = λ n e. omega arith;
      checked = (λ e. refl, (λ e. absurd (cc), tt));
      kinds = (λ e f. refl, (λ e f. absurd (cc), tt));
      commands = record { last = []; entries = refl; is_last = inl refl };
      arenas = λ place k is. only_arena 1 place k is (λ p n. InHistory (served 1) p n (made_by (session_at three 1).calls (replies_at three_replies 1)) (own_stands 1 (only three_history p n))) (record { last = []; entries = refl; is_last = inl refl });
    }
    each (suc (suc zero)) h = record {
      cut_last = record { few = omega arith; last = refl; all = λ e. absurd (cc) };
      in_time = λ n e. absurd (cc);
      checked = (λ e. absurd (cc), tt);
      kinds = (λ e f. absurd (cc), tt);
      commands = record { last = []; entries = refl; is_last = inl refl };
      arenas = λ place k is. only_arena 1 place k is (λ p n. InHistory (served 1) p n (made_by (session_at three 2).calls (replies_at three_replies 2)) (own_stands 2 (only three_history p n))) (record { last = []; entries = refl; is_last = inl refl });
    }
    each (suc (suc (suc q))) h = absurd (omega arith)

    cause : CutHasCause three three_replies three_journal
    cause q e = inl (1, (omega arith, refl, refl))

-- the write that was cut is in flight: it isn't in the history
pub three_flight : flights_on (served 1) 0 0 three three_replies (only three_history) ≡ record { sector = 0; act = act.Write (filled 0x22) } ∷ []
three_flight = refl

-- what is left of sector 0 is the end's cell or that of the write in flight
pub three_end : Survives fresh three_history (flights_on (served 1) 0 0 three three_replies (only three_history)) 1 (end_of fresh three_history)
three_end sector h = inl refl

pub three_other : Survives fresh three_history (flights_on (served 1) 0 0 three three_replies (only three_history)) 1 (λ sector. cell.Bytes (filled 0x22))
three_other sector h = let is : 0 ≡ sector = omega arith in inr (0, record { sector = 0; act = act.Write (filled 0x22) }, omega arith, refl, (is, refl))

-- ---- steps: a write on 256 lanes takes 392

pub write_steps : steps_in (served 256) (made_by (open_u ∷ write 0 0x5a ∷ []) (reply.Done ∷ reply.Done ∷ [])) ≡ 392
write_steps = refl

-- ---- two arenas of 32,202 sectors

abbrev half : Shape
half = record { sectors = 32202; bytes = 512; lanes = 256 }

abbrev two_arenas : List Serving
two_arenas = record { uuid = filled 1; arenas = [] } ∷ record { uuid = u; arenas = half ∷ half ∷ [] } ∷ []

pub last_of_first : spot_in two_arenas u 32201 ≡ Some (record { place = 1; arena = 0; own = 32201; shape = half })
last_of_first = refl

pub first_of_second : spot_in two_arenas u 32202 ≡ Some (record { place = 1; arena = 1; own = 0; shape = half })
first_of_second = refl

pub last_of_second : spot_in two_arenas u 64403 ≡ Some (record { place = 1; arena = 1; own = 32201; shape = half })
last_of_second = refl

pub behind_both : check_of two_arenas (Some u) (line.Read 64404) ≡ Some (reply.Range 64404)
behind_both = refl

pub wrong_length : check_of two_arenas (Some u) (line.Write 64403 (payload.Hex (0 ∷ []))) ≡ Some (reply.Length 1 512)
wrong_length = refl

-- the range comes before the length
pub range_first : check_of two_arenas (Some u) (line.Write 64404 (payload.Hex (0 ∷ []))) ≡ Some (reply.Range 64404)
range_first = refl
