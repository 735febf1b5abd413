-- The domain parameters of a key on an elliptic curve.
use Rattle.std.specs.Prelude.{ℕ, ◌+◌, ◌*◌, ◌==◌, ◌&&◌, nat_le, Bool, take, Result, Ok}
use Rattle.jc_frames.specs.declared.outcome.FrameExit.{FrameExit}
use Rattle.jc_memory.specs.State.{MemoryState}
use Rattle.jc_world.specs.Answers.{and_then}
use Rattle.jc_world.specs.Arrays.{IsInArray, bytes_in}
use Rattle.jc_public_keys.specs.CurveBytes.{CurveBytes}
use Rattle.jc_api_keys.specs.KeyObjects.Parts.{key_part}
use Rattle.jc_api_keys.specs.declared.key_objects.contents.Key.{Key}
use Rattle.jc_api_keys.specs.declared.key_parts.KeyPart.TheVariants as part
use Rattle.jc_api_pairs.specs.declared.curve_parts.CurvePartBytes.{CurvePartBytes}
use Rattle.jc_api_pairs.specs.declared.curve_parts.CurveParts.{CurveParts}

-- how many bytes a number of a curve has at most
abbrev pub most_number : ℕ
most_number = 66

-- the domain parameters of a key but for the cofactor, or what is thrown for the first that is not set
abbrev pub curve_parts_of : MemoryState → Key → Result CurveParts FrameExit
curve_parts_of m key = and_then (key_part m key part.Field) (λ field. and_then (key_part m key part.A) (λ a. and_then (key_part m key part.B) (λ b.
    and_then (key_part m key part.G) (λ generator. and_then (key_part m key part.R) (λ order.
    Ok (record { field = field; a = a; b = b; generator = generator; order = order }))))))

-- they are there
pub record AreCurveParts (m : MemoryState) (parts : CurveParts) : Type 0 where
  pub field : IsInArray m parts.field
  pub a : IsInArray m parts.a
  pub b : IsInArray m parts.b
  pub generator : IsInArray m parts.generator
  pub order : IsInArray m parts.order

-- they have no more bytes than the numbers of a curve, and the base point is as long as an uncompressed one
abbrev pub are_curve_parts_short : CurveParts → Bool
are_curve_parts_short parts = nat_le parts.field.count most_number && (nat_le parts.a.count most_number && (nat_le parts.b.count most_number
    && (nat_le parts.order.count most_number && parts.generator.count == 2 * parts.field.count + 1)))

-- the curve that they describe
abbrev pub curve_of_parts : MemoryState → CurveParts → CurveBytes
curve_of_parts m parts = record {
  field = bytes_in m parts.field;
  a = bytes_in m parts.a;
  b = bytes_in m parts.b;
  generator = bytes_in m parts.generator;
  order = bytes_in m parts.order;
}

-- the bytes that were read for them
abbrev pub bytes_read : CurveParts → CurvePartBytes → CurveBytes
bytes_read parts bytes = record {
  field = take parts.field.count bytes.field;
  a = take parts.a.count bytes.a;
  b = take parts.b.count bytes.b;
  generator = take parts.generator.count bytes.generator;
  order = take parts.order.count bytes.order;
}
