use Rattle.std.proofs.Common.{◌≡◌, take, drop}
use Rattle.no_semantics.specs.First.{first_byte, first_of, program_of}
use Rattle.no_semantics.specs.Image.{addresses_behind, regions_of}
use Rattle.no_image.specs.Pieces.{AreInside, over}
use Rattle.no_image.proofs.making.pieces.Given as goal

abbrev pub invariant-loop-k : goal.invariant-loop-k
invariant-loop-k l = record {
  bytes : first_byte l.sound ≡ over l.all (first_of (program_of l.sound) (addresses_behind l.sound.layout l.sound.sizes l.sound.«module».globals (take l.k l.sound.«module».globals) (drop l.k l.sound.«module».globals)) (drop l.k l.sound.«module».globals));
  inside : AreInside (regions_of l.sound.layout l.sound.sizes l.sound.«module».globals) l.all;
}
