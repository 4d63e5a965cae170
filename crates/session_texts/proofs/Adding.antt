-- One reply more is one line more.
use Rattle.std.proofs.Common.{◌≡◌, ℕ, List, [], ◌∷◌, ◌++◌, append_assoc, append-nil, refl, ap, ◌∙◌, sym}
use Rattle.session_account.specs.declared.reply.Reply.{Reply}
use Rattle.session_texts.specs.Texts.{replies_text, reply_text}

pub replies_none : replies_text [] ≡ []
unfolding replies_text
replies_none = refl

pub replies_more : (replies : List Reply) (reply : Reply) → replies_text (replies ++ reply ∷ []) ≡ replies_text replies ++ reply_text reply
unfolding replies_text
replies_more [] reply = append-nil (reply_text reply)
replies_more (r ∷ rs) reply = ap (λ (text : List ℕ). reply_text r ++ text) (replies_more rs reply) ∙ sym (append_assoc (reply_text r) (replies_text rs) (reply_text reply))
