-- Messages one after the other, and the bytes that follow them.
use Rattle.std.specs.Prelude.{◌≡◌, ℕ, false, List, [], ◌∷◌}
use Rattle.http_edge.specs.Requests.{MessageValue}
use Rattle.http_edge.specs.Messages.{Settles, ends}

-- these messages, none of which ends the stream, and what follows them
abbrev pub SettlesAll : List ℕ → List MessageValue → List ℕ → Type 0
SettlesAll bytes [] rest = rest ≡ bytes
SettlesAll bytes (message ∷ messages) rest =
    (mid : List ℕ) × Settles bytes message mid × (ends message ≡ false) × SettlesAll mid messages rest
