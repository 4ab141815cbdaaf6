-- How much a request may hold, and how long a period may be.
use Rattle.std.specs.Prelude.{ℕ}

-- how many characters a text, a topic and a name may have, and how many items a list, or subscribers the channel of a send
abbrev pub longest_text : ℕ
longest_text = 10000

abbrev pub longest_topic : ℕ
longest_topic = 60

abbrev pub longest_name : ℕ
longest_name = 100

abbrev pub most_items : ℕ
most_items = 10000

-- how many characters of a message's text a push shows
abbrev pub pushed_characters : ℕ
pushed_characters = 200

-- the least and the greatest period of a user's mails, in seconds: a second and a week
abbrev pub shortest_period : ℕ
shortest_period = 1

abbrev pub longest_period : ℕ
longest_period = 604800
