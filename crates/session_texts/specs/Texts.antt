-- The lines of the replies to sessions. This project's rules.
use Rattle.std.specs.Prelude.{ℕ, List, [], ◌∷◌, ◌++◌, codes}
use Rattle.std.specs.Fmt.{decimal}
use Rattle.session_account.specs.declared.reply.Reply.{Reply}
use Rattle.session_account.specs.declared.reply.Reply.TheVariants as reply
use Rattle.session_script.specs.Texts.{cell_text}
use Rattle.shell_reports.specs.Faults.{refusal_text}
use Rattle.shell_reports.specs.Outcome.{joined, lf}

-- the line of a reply
abbrev pub reply_text : Reply → List ℕ
reply_text reply.Done = codes "ok" ++ lf
reply_text (reply.Value cell) = cell_text cell
reply_text (reply.Range count) = joined (codes "refused Range " ∷ decimal count ∷ lf ∷ [])
reply_text (reply.Length said had) = joined (codes "refused Length " ∷ decimal said ∷ codes " " ∷ decimal had ∷ lf ∷ [])
reply_text reply.NotOpen = codes "refused NotOpen" ++ lf
reply_text reply.IsOpen = codes "refused IsOpen" ++ lf
reply_text (reply.Op refused) = joined (codes "refused " ∷ refusal_text refused ∷ lf ∷ [])
reply_text reply.Cut = codes "cut" ++ lf

-- the lines of replies, in order
unfoldable pub replies_text : List Reply → List ℕ
replies_text [] = []
replies_text (reply ∷ replies) = reply_text reply ++ replies_text replies
