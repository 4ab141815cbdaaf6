-- Which messages belong to one conversation.
use Rattle.std.specs.Prelude.{Bool, false, ◌==◌, ◌&&◌, List}
use Rattle.std.specs.List.{list_all, list_any}
use Rattle.std.specs.Str.{str_eq_ignore_ascii_case}
use Rattle.chat_model.specs.declared.ids.UserId.{UserId}
use Rattle.chat_model.specs.declared.entry.Conversation.{Conversation}
use Rattle.chat_model.specs.declared.entry.Conversation.TheVariants.{Channel, Direct}

-- the user is one of these
abbrev pub has_user : List UserId → UserId → Bool
has_user users u = list_any (λ v. v.0 == u.0) users

-- the users are the same set
abbrev pub same_users : List UserId → List UserId → Bool
same_users us vs = list_all (has_user vs) us && list_all (has_user us) vs

-- the channel and the topic without ASCII case, or the sender and the set of users of a direct message
abbrev pub same_conversation : Conversation → Conversation → Bool
same_conversation (Channel c name topic) (Channel other_c other_name other_topic) = c.0 == other_c.0 && str_eq_ignore_ascii_case topic other_topic
same_conversation (Direct users sender) (Direct other_users other_sender) = sender.0 == other_sender.0 && same_users users other_users
same_conversation _ _ = false
