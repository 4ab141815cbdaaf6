-- What a user's settings let through, and which topics a user follows.
use Rattle.std.specs.Prelude.{Bool, true, false, not, ◌&&◌, Option, unwrap_or, if◌then◌else◌}
use Rattle.chat_model.specs.declared.policy.Policy.{Policy}
use Rattle.chat_model.specs.declared.policy.Policy.TheVariants as policy

abbrev pub is_muted : Policy → Bool
is_muted policy.Muted = true
is_muted _ = false

abbrev pub is_unmuted : Policy → Bool
is_unmuted policy.Unmuted = true
is_unmuted _ = false

abbrev pub is_followed : Policy → Bool
is_followed policy.Followed = true
is_followed _ = false

-- the first that applies: a muted channel lets nothing through unless the topic is unmuted; a muted topic lets nothing
-- through; a setting for the channel counts; else the user's own switch
abbrev pub allows : Bool → Policy → Option Bool → Bool → Bool
allows muted p specific account =
    if muted && not (is_unmuted p) then false
    else if is_muted p then false
    else unwrap_or specific account

-- the topic is followed, and the user's switch is on
abbrev pub followed : Policy → Bool → Bool
followed p account = is_followed p && account
