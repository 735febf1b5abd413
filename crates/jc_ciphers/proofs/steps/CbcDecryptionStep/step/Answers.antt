use Rattle.std.proofs.Common.{length, length-take-le, sym, arith}
use Rattle.jc_ciphers.proofs.steps.CbcDecryptionStep.step.Goals as goal

pub slice_bounds-next-end : goal.slice_bounds-next-end
slice_bounds-next-end g c = let long = c.requires.block in let fits = c.requires.fits in omega (arith, long, fits)

pub slice_bounds-next-end-2 : goal.slice_bounds-next-end-2
slice_bounds-next-end-2 g c =
    let long = c.requires.block in
    let fits = c.requires.fits in
    sym (length-take-le (length c.args.block.now) _ (omega (arith, long, fits)))

pub copy_from_slice-requires : goal.copy_from_slice-requires
copy_from_slice-requires g c =
    let long = c.requires.block in
    let fits = c.requires.fits in
    length-take-le (length c.args.block.now) _ (omega (arith, long, fits))
