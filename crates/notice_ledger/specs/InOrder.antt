-- The lists of a request as its event keeps them: ascending, once each.
use Rattle.std.specs.Prelude.{Bool, true, List}
use Rattle.chat_model.specs.declared.ids.UserId.{UserId}
use Rattle.chat_model.specs.declared.request.Request.{Request}
use Rattle.chat_model.specs.declared.request.Request.TheVariants.{AddGroup, Direct, Read}
use Rattle.chat_model.specs.Ascending.{ascending_once_by, is_ascending_by}

-- users ascend, and so stand once each
abbrev pub is_ascending : List UserId → Bool
is_ascending us = is_ascending_by (λ u. u.0) us

-- the request with its lists ascending, once each
abbrev pub in_order : Request → Request
in_order (AddGroup name members) = AddGroup name (ascending_once_by (λ u. u.0) members)
in_order (Direct sender to text) = Direct sender (ascending_once_by (λ u. u.0) to) text
in_order (Read user messages) = Read user (ascending_once_by (λ m. m.0) messages)
in_order request = request

-- the lists of the request ascend
abbrev pub is_in_order : Request → Bool
is_in_order (AddGroup name members) = is_ascending members
is_in_order (Direct sender to text) = is_ascending to
is_in_order (Read user messages) = is_ascending_by (λ m. m.0) messages
is_in_order request = true
