-- Modules that were accepted: they stand with the room of their globals.
pub use Rattle.no_room.specs.Accepted.{Accepted}
