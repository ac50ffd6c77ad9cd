-- The first memory of a program: where its constants and globals stand, and where they end. The definitions stand below the verifier.
pub use Rattle.no_room.specs.Ends.{stated_or, global_align, place_behind, same_kind, end_with, end_of, constants_end_of, globals_start_of, regions_of, start_of, address_behind, addresses_behind, addresses_of}
