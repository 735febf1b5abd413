use Rattle.std.proofs.Common.{◌≡◌, ◌+◌, ◌*◌, ◌≤◌, ◌++◌, replicate, length, ap, sym, subst, ◌∙◌, length-append, arith}
use Rattle.std.proofs.lemmas.List.{length-map, length-replicate}
use Rattle.jc_cap.specs.StaticValues.{StaticParts}
use Rattle.jc_cap.specs.StaticViews.{static_parts}
use Rattle.jc_heap.specs.Package.{AreComponents, array_inits, parts}
use Rattle.jc_packages.specs.RecordContents.{array_of, arrays_of, image_of, parts_of, statics_of, zeros_of}
use Rattle.jc_packages.proofs.Fit.{parts_fit}
use Rattle.jc_packages.proofs.StaticCells.{few_arrays, image_adds_up}
use Rattle.jc_packages.proofs.record_contents.contents_with.Goals as goal

pub zeros_of-zeros-requires : goal.zeros_of-zeros-requires
zeros_of-zeros-requires c = subst (λ s. length s.arrays ≤ s.reference_count) (sym c.requires.read) (few_arrays c.args.texts.now c.requires.sound)

pub returns : goal.returns
returns c =
    let s = static_parts c.args.statics in
    let t = c.args.texts.now in
    let is : s ≡ statics_of t = c.requires.read in
    let components : parts c.in_ok-components.components.items ≡ parts_of t = c.in_ok-components.ensures in
    let zeros = c.zeros_of-zeros.ensures in
    let image : c.in_ok-image.image.items ≡ image_of s = c.in_ok-image.ensures ∙ ap (λ z. replicate z 0 ++ s.non_default_values) zeros in
    let arrays : array_inits c.in_ok-arrays.arrays.items ≡ arrays_of s = c.in_ok-arrays.ensures.made in
    let few : length (array_inits c.in_ok-arrays.arrays.items) ≡ length s.arrays = ap length arrays ∙ length-map s.arrays array_of in
    let long : length c.in_ok-image.image.items ≡ c.zeros_of-zeros.result + length s.non_default_values =
    ap length c.in_ok-image.ensures ∙ length-append (replicate c.zeros_of-zeros.result 0) s.non_default_values
    ∙ ap (λ n. n + length s.non_default_values) (length-replicate c.zeros_of-zeros.result 0) in
    let P : StaticParts → Type 0 = λ x. 2 * length x.arrays + (zeros_of x + length x.non_default_values) ≡ x.image_size in
    let sum : 2 * length s.arrays + (zeros_of s + length s.non_default_values) ≡ s.image_size = subst P (sym is) (image_adds_up t c.requires.sound) in
    record {
      components = components;
      arrays = arrays ∙ ap arrays_of is;
      image = image ∙ ap image_of is;
      are_components = subst AreComponents (sym components) (parts_fit t);
      are_arrays = c.in_ok-arrays.ensures.fit;
      small = omega (arith, few, long, zeros, sum, c.size_of_image-size.type_inv, c.size_of_image-size.ensures);
    }
