-- Where feeding stands in a chunk of the input: what is known of the line that has begun, how much has been taken and written.
use Rattle.std.specs.Prelude.{Bool, List, ◌≡◌, ℕ, ◌+◌, ◌≤◌, ◌<◌, length}
use Rattle.std.proofs.Math.Option.{Option}
use Rattle.rules.specs.Bench as rules
use Rattle.rules.specs.Requests.{Request}
use Rattle.lines.specs.Feeding.{Feeding}
use Rattle.lines.specs.NextEnds.{FedOnBy}
use Rattle.play.specs.declared.place.Place.{Place}
use Rattle.index.specs.Tables.{Table}
use Rattle.play.specs.Known.{feeding_in, KnownTable}

-- what the table and the line that has begun at a place stand for
abbrev pub feeding_at : Table → Place → Feeding
feeding_at t place = feeding_in t place.begun.count place.begun.value

-- There is more of the input, and room for what is written for a line, at most `width` bytes.
pub record GoesOn (width : ℕ) (place : Place) (input out : List ℕ) : Type 0 where
  pub more : place.at < length input
  pub room : place.written + width ≤ length out

-- From one place the input has been fed to another, farther on, where `say` gives what is written for a line.
pub record FedTo (say : rules.Bench → Option Request → List ℕ) (input : List ℕ) (is_sound : Bool) (before : Table) (out : List ℕ) (place : Place) (is_sound' : Bool) (after : Table) (out' : List ℕ) (place' : Place) : Type 0 where
  pub on : FedOnBy say (feeding_at before place) input place.at place'.at out place.written (feeding_at after place') out' place'.written
  pub known : KnownTable is_sound' after
  pub same_sound : is_sound' ≡ is_sound
