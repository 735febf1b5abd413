-- New keys on the curve of a public key.
use Rattle.std.specs.Option.{option_map}
use Rattle.std.specs.Prelude.{◌++◌, Option, None, Result, if◌then◌else◌}
use Rattle.jc_frames.specs.declared.outcome.FrameExit.{FrameExit}
use Rattle.jc_memory.specs.State.{MemoryState}
use Rattle.jc_linker.specs.Values.{Packages}
use Rattle.jc_world.specs.Answers.{and_then}
use Rattle.jc_world.specs.Arrays.{bytes_in}
use Rattle.jc_world.specs.Objects.{some_or_fault}
use Rattle.jc_world.specs.declared.arrays.Stretch.{Stretch}
use Rattle.jc_public_keys.specs.CurveKeys.{CurveKeyPair, key_pair_of}
use Rattle.jc_api_keys.specs.EcKeys.{curve_size, domain_elements}
use Rattle.jc_api_pairs.specs.CurveParts.{are_curve_parts_short, curve_of_parts, curve_parts_of}
use Rattle.jc_api_pairs.specs.KeyPair.Changes.{PairChange}
use Rattle.jc_api_pairs.specs.KeyPair.NewKeys.{NewKeys, change_if_made, part_bytes, seed_of}
use Rattle.jc_api_pairs.specs.declared.curve_parts.CurveParts.{CurveParts}
use Rattle.jc_api_pairs.specs.declared.key_pair.keys.KeysOfPair.{KeysOfPair}

abbrev pub new_pair : Packages → MemoryState → KeysOfPair → CurveParts → Option CurveKeyPair
new_pair p m pair parts = if are_curve_parts_short parts then key_pair_of (curve_of_parts m parts) (seed_of p m pair) else None

-- the point of the public key stands after its domain parameters. The private key gets all of them, and its number after them
abbrev pub keys_with : MemoryState → Stretch → CurveKeyPair → NewKeys
keys_with m domain made =
    record { start = domain.count; public = part_bytes made.public; private = bytes_in m domain ++ part_bytes made.private }

-- parameters that describe no curve throw
abbrev pub change_with : Packages → MemoryState → KeysOfPair → CurveParts → Stretch → Result PairChange FrameExit
change_with p m pair parts domain = change_if_made pair (option_map (keys_with m domain) (new_pair p m pair parts))

-- new keys of a pair on a curve
abbrev pub curve_change : Packages → MemoryState → KeysOfPair → Result PairChange FrameExit
curve_change p m pair = and_then (curve_parts_of m pair.public) (λ parts. and_then (some_or_fault (curve_size pair.public)) (λ n.
    change_with p m pair parts (domain_elements pair.public n)))
