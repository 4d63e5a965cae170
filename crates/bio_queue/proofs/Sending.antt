-- What threads pass on: a desk, with all that it holds. D, g and `held` are what is known of the type behind a callback's box.
use denote.Param.Object.{Ghosts, table_of}
use denote.Param.Sent.{Sends}
use denote.RattleType.{RattleType}
use denote.Param.Send.{IsSend, IsSync, sendable, struct_send, struct_sync, recorded_send, recorded_sync}
use denote.Struct.Declared.{shape}
use Rattle.std.proofs.Crossing.{crosses, dyn_box_send}
use Rattle.atomic_table.proofs.shared.Seat.TheSendSync as seat
use Rattle.atomic_table.specs.contracts.shared.Seat as Seat
use Rattle.crossbeam_queue.specs.contracts.array_queue.Doing as Doing
use Rattle.std.specs.contracts.option.Option as Option
use Rattle.std.proofs.alloc.Global.TheSendSync as heap
use Rattle.std.proofs.option.Option.TheSendSync as option
use Rattle.std.specs.contracts.alloc.Global as Heap
use Rattle.std.specs.contracts.impls.GlobalAllocator.TheImpl as allocator
use Rattle.crossbeam_queue.proofs.array_queue.Slotted.TheSendSync as slotted
use Rattle.crossbeam_queue.specs.contracts.array_queue.TurnsTableRuleOptionDoingUnit.TheImpl as rule
use Rattle.ticket_queue.specs.contracts.law.Law as Law
use Rattle.ticket_queue.specs.contracts.law.LawProtocolTicketView.TheImpl as law
use Rattle.ticket_queue.proofs.ticket.Ticket.TheSendSync as ticket
use Rattle.ticket_queue.specs.contracts.ticket.Ticket as Ticket
use Rattle.ticket_queue.specs.contracts.ticket.View as View
use Rattle.lane_sessions.proofs.Sending.{session_field_send}
use Rattle.bio_queue.specs.contracts.bio.Bio as Bio
use Rattle.bio_queue.specs.contracts.completion.Completion as Completion
use Rattle.bio_queue.specs.contracts.desk.Desk as Desk
use Rattle.bio_queue.specs.contracts.desk.Job as Job
use Rattle.bio_queue.specs.contracts.performing.Room as Room
use Rattle.bio_queue.specs.contracts.queue.BioQueue as BioQueue
use Rattle.bio_queue.specs.contracts.submitter.Submitter as Submitter
use Rattle.bio_queue.specs.contracts.worker.Worker as Worker
use Rattle.bio_queue.proofs.bio.Completed.TheSendSync as completed

room_send : IsSend Room.the_row
room_send = recorded_send (Room.the_field).row _ _ (Room.the_type).to_one (struct_send (shape Room.the_type) (search (sendable, crosses) depth 20, (search (sendable, crosses) depth 20, tt)))

completion_field_send : (D : RattleType) (g : Ghosts D.Denot) (held : _) → Sends (table_of D.Denot g) → IsSend D → IsSend (Completion.the_field D g held).row
completion_field_send D g held s d = struct_send (shape (Completion.the_type D g held)) (search (sendable, crosses) depth 20, (search (dyn_box_send D g s d, sendable, crosses) depth 20, tt))

bio_send : (D : RattleType) (g : Ghosts D.Denot) (held : _) → Sends (table_of D.Denot g) → IsSend D → IsSend (Bio.the_row D g held)
bio_send D g held s d = recorded_send (Bio.the_field D g held).row _ _ (Bio.the_type D g held).to_one (struct_send (shape (Bio.the_type D g held)) (
  search (sendable, crosses) depth 20,
  (search (sendable, crosses) depth 20, (search (sendable, crosses) depth 20, (completion_field_send D g held s d, tt))),
))

job_send : (D : RattleType) (g : Ghosts D.Denot) (held : _) → Sends (table_of D.Denot g) → IsSend D → IsSend (Job.the_row D g held)
job_send D g held s d = recorded_send (Job.the_field D g held).row _ _ (Job.the_type D g held).to_one (struct_send (shape (Job.the_type D g held)) (
  search (sendable, crosses) depth 20,
  (completion_field_send D g held s d, tt),
))

pass_send : (D : RattleType) (g : Ghosts D.Denot) (held : _) → Sends (table_of D.Denot g) → IsSend D
    → IsSend (Seat.the_row (Option.the_row (Ticket.the_row (Bio.the_row D g held))) (Doing.the_row (Ticket.the_row (Bio.the_row D g held)) (View.the_row (Bio.the_row D g held))))
pass_send D g held s d =
    let bio = bio_send D g held s d in
    let B = Bio.the_row D g held in
    seat.the_send (Option.the_row (Ticket.the_row B)) (Doing.the_row (Ticket.the_row B) (View.the_row B)) (option.the_send (Ticket.the_row B) (ticket.the_send B bio))

submitter_field_send : (D : RattleType) (g : Ghosts D.Denot) (held : _) → Sends (table_of D.Denot g) → IsSend D → IsSend (Submitter.the_field D g held).row
submitter_field_send D g held s d =
    struct_send (shape (Submitter.the_type D g held)) (
      search (sendable, crosses) depth 20,
      (
        search (sendable, crosses) depth 20,
        (search (sendable, crosses) depth 20, (search (sendable, crosses) depth 20, (pass_send D g held s d, tt))),
      ),
    )

worker_field_send : (D : RattleType) (g : Ghosts D.Denot) (held : _) → Sends (table_of D.Denot g) → IsSend D → IsSend (Worker.the_field D g held).row
worker_field_send D g held s d =
    let bio = bio_send D g held s d in
    struct_send (shape (Worker.the_type D g held)) (
      search (sendable, crosses) depth 20,
      (
        search (sendable, crosses) depth 20,
        (
          search (sendable, crosses) depth 20,
          (
            pass_send D g held s d,
            (
              session_field_send,
              (
                search (completed.the_send, sendable, crosses) depth 20,
                (search (room_send, sendable, crosses) depth 20, (search (bio, sendable, crosses) depth 20, tt)),
              ),
            ),
          ),
        ),
      ),
    )

pub desk_send : (D : RattleType) (g : Ghosts D.Denot) (held : _) → Sends (table_of D.Denot g) → IsSend D → IsSend (Desk.the_row D g held)
desk_send D g held s d =
    let job = job_send D g held s d in
    recorded_send (Desk.the_field D g held).row _ _ (Desk.the_type D g held).to_one (struct_send (shape (Desk.the_type D g held)) (
      submitter_field_send D g held s d,
      (
        worker_field_send D g held s d,
        (search (job, sendable, crosses) depth 20, (search (sendable, crosses) depth 20, (search (sendable, crosses) depth 20, tt))),
      ),
    ))

pub queue_sync : (D : RattleType) (g : Ghosts D.Denot) (held : _) → Sends (table_of D.Denot g) → IsSend D → IsSync (BioQueue.the_row D g held)
queue_sync D g held s d =
    let B = Bio.the_row D g held in
    recorded_sync (BioQueue.the_field D g held).row _ _ (BioQueue.the_type D g held).to_one (struct_sync (shape (BioQueue.the_type D g held)) (
      slotted.the_field_sync _ _ _ Heap.the_row (rule.ghosts (Ticket.the_row B) (View.the_row B) Law.the_row (law.ghosts B) rule.no_dict) allocator.ghosts (option.the_send (Ticket.the_row B) (ticket.the_send B (bio_send D g held s d))) heap.the_send heap.the_sync (search (sendable, crosses) depth 20),
      (search (sendable, crosses) depth 20, (search (sendable, crosses) depth 20, (search (sendable, crosses) depth 20, tt))),
    ))
