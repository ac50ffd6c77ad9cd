-- What it gains to move a function's calls to a server, at given rates.
use Rattle.std.specs.Prelude.{ℕ, ◌+◌, ◌*◌, Bool, ℤ, pos, ◌-ℤ◌, int_lt}
use Rattle.no_profile.specs.declared.profile.Line.{Line}
use Rattle.no_profile.specs.declared.profile.Rates.{Rates}

-- what the steps cost on the device
abbrev pub kept_cost : Line → Rates → ℕ
kept_cost l r = l.steps * r.device

-- what each call costs that moves: its pages, of 4,096 bytes, go there and back
abbrev pub call_cost : Line → Rates → ℕ
call_cost l r = 2 * l.pages * 4096 * r.byte + r.call

-- what the steps cost on the server, and the calls
abbrev pub moved_cost : Line → Rates → ℕ
moved_cost l r = l.steps * r.server + l.calls * call_cost l r

-- steps * (device - server) - calls * (2 * pages * 4096 * byte + call)
abbrev pub gain_of : Line → Rates → ℤ
gain_of l r = pos (kept_cost l r) -ℤ pos (moved_cost l r)

-- it is worth moving what gains more than nothing
abbrev pub is_worth : Rates → Line → Bool
is_worth r l = int_lt (pos 0) (gain_of l r)
