-- What a link tells of its start, and of the datagrams that it heard and sent.
use Rattle.std.specs.Prelude.{◌≡◌, ℕ, ◌<◌, ◌≤◌, List, [], ◌∷◌, ◌++◌, length, take, Option, None, Some, option_map, IfSome}
use Rattle.fw_base.specs.Faults.{Rose}
use Rattle.fw_base.specs.declared.link.Done.{Done}
use Rattle.fw_base.specs.declared.link.Done.TheVariants as done
use Rattle.fw_base.specs.declared.link.Heard.{Heard}
use Rattle.fw_base.specs.declared.link.Heard.TheVariants as heard

-- a start: the first port, the own seat and the number of seats
abbrev pub Start : Type 0
Start = ℕ × ℕ × ℕ

abbrev pub seats_of : Start → ℕ
seats_of start = start.2

-- a datagram that was heard: the sender's seat, if it has one, and its bytes
abbrev pub HeardDatagram : Type 0
HeardDatagram = Option ℕ × List ℕ

-- a datagram that was sent: the seat that it went to, and its bytes
abbrev pub SentDatagram : Type 0
SentDatagram = ℕ × List ℕ

-- the most bytes of a datagram that is sent: a piece of a frame, which has a byte for its kind, a digest of 32, an index and
-- a count of 4 each, and at most 8,192 bytes of the frame
abbrev pub longest_datagram : ℕ
longest_datagram = 8233

-- it was done, or the count of faults rose
abbrev pub DoneOrRose : ℕ → ℕ → Done → Type 0
DoneOrRose before after done.Done = Unit {0}
DoneOrRose before after done.Failed = Rose before after

-- something was heard, or the count of faults rose
abbrev pub HeardOrRose : ℕ → ℕ → Heard → Type 0
HeardOrRose before after (heard.Got len peer) = Unit {0}
HeardOrRose before after heard.Failed = Rose before after

-- the start is told from then on where it was done; else there is none as before
abbrev pub Starts : Start → Done → Option Start → Type 0
Starts start done.Done started = started ≡ Some start
Starts start done.Failed started = started ≡ None

-- a peer, if it is one, is below the seats of the start
abbrev pub IsPeerOf : Option Start → Option ℕ → Type 0
IsPeerOf started peer = IfSome started (λ start. IfSome peer (λ seat. seat < seats_of start))

-- a datagram that is heard is within the buffer, and its sender is a seat or unknown
abbrev pub IsWithin : Option Start → List ℕ → Heard → Type 0
IsWithin started buffer (heard.Got len peer) = (len ≤ length buffer) × IsPeerOf started peer
IsWithin started buffer heard.Failed = Unit {0}

-- what was heard stands in the buffer's front, and is told as the newest
abbrev pub Hears : Option (List HeardDatagram) → Heard → List ℕ → Option (List HeardDatagram) → Type 0
Hears before (heard.Got len peer) buffer after = after ≡ option_map (λ all. all ++ (peer, take len buffer) ∷ []) before
Hears before heard.Failed buffer after = after ≡ before

-- what was sent is told as the newest
abbrev pub Sends : Option (List SentDatagram) → SentDatagram → Done → Option (List SentDatagram) → Type 0
Sends before datagram done.Done after = after ≡ option_map (λ all. all ++ datagram ∷ []) before
Sends before datagram done.Failed after = after ≡ before

-- where datagrams are told, there are none
abbrev pub TellsNone : {T : Type 0} → Option (List T) → Type 0
TellsNone told = IfSome told (λ all. all ≡ [])
