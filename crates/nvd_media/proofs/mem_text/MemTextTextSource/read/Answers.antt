use Rattle.std.proofs.Common.{ap, length}
use Rattle.nvd_media.proofs.Front.{read_front}
use Rattle.nvd_media.proofs.mem_text.MemTextTextSource.read.Goals as goal

pub returns-clause-bytes : goal.returns-clause-bytes
returns-clause-bytes c =
    read_front c.args.self.now.bytes.items c.copy_front-count.new.into c.args.self.now.at c.copy_front-count.result (length c.deref.result.now)
    c.args.self.now.inside (ap length c.deref.ensures.value) (rw (← c.deref.ensures.value) c.copy_front-count.ensures.front)
    (rw (← c.deref.ensures.value) c.copy_front-count.ensures.count)
