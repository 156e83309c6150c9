use Rattle.format.proofs.Bounds.{sound_size}
use Rattle.layout.proofs.Layout.chunk_holds.Goals as goal

pub chunk_holds-requires : goal.chunk_holds-requires
chunk_holds-requires c =
    let s = c.args.self.now.sound in
    (s.block, (sound_size s c.args.i c.requires).1)
