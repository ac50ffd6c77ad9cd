-- What the steps of reading a profile answer.
use Rattle.std.specs.Prelude.{◌≡◌, ℕ, List, Result, Ok, Err}
use Rattle.serde_json.specs.Data.{Members, object}
use Rattle.serde_json.specs.View.{view}
use Rattle.serde_json.specs.declared.value.Value.{Value}
use Rattle.no_profile.specs.Reading.{IsObject}
use Rattle.no_profile.specs.declared.profile.Profile.{Profile}
use Rattle.no_profile.specs.declared.fault.ProfileError.{ProfileError}
use Rattle.no_profile.specs.declared.fault.ProfileError.TheVariants as error
use Rattle.no_profile.specs.declared.fault.ProfileFault.{ProfileFault}
use Rattle.no_profile.specs.declared.fault.ProfileFault.TheVariants as fault

-- what a profile is read as was answered, where memory was there
abbrev pub Told : Result Profile ProfileFault → Result Profile ProfileError → Type 0
Told is (Ok p) = is ≡ Ok p
Told is (Err (error.Fault f)) = is ≡ Err f
Told is (Err error.NoMemory) = Unit {0}

-- what opening a text as an object answers
abbrev pub Opens : List ℕ → Result Value ProfileError → Type 0
Opens text (Ok value) = (members : Members) × (view value ≡ object members) × IsObject text members
Opens text (Err (error.Fault f)) = (f ≡ fault.NotJson) × ((members : Members) → IsObject text members → ⊥)
Opens text (Err error.NoMemory) = Unit {0}
