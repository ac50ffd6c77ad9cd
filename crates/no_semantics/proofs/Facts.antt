-- What an accepted module gives the machine.
pub use Rattle.no_sound.proofs.Facts.{block_fits_in, both, layout_formed, pointer_most, pointer_some, table_is}
