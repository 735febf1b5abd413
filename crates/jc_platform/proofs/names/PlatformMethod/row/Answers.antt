use Rattle.std.proofs.Common.{◌≡◌, ◌∙◌, ℕ, length, get_or, refl, ap, sym, arith}
use Rattle.std.proofs.lemmas.List.{get_or-map, length-map}
use Rattle.jc_platform.specs.declared.names.PlatformMethod.{PlatformMethod}
use Rattle.jc_platform.specs.declared.names.PlatformMethod.TheVariants.{Objects, Exceptions, Utilities, System, Aids, Pins, Applets, Apdus, Events, Engines}
use Rattle.jc_platform.specs.declared.names.PlatformMethod.TheVariants.{Keys, KeyInterfaces, Ciphers}
use Rattle.jc_platform.specs.declared.names.PlatformMethod.TheVariants.{RsaKeys, EcKeys, RsaInterfaces, EcInterfaces, KeyPairs}
use Rattle.jc_platform.specs.NamePlaces.{entry_of_method, room_place, room_rows}
use Rattle.jc_platform.specs.Names.{no_method}
use Rattle.jc_platform.specs.RowValues.{method_value}
use Rattle.jc_platform.proofs.Facts.{room_places}
use Rattle.jc_platform.proofs.names.PlatformMethod.row.Goals as goal

placed : (m : PlatformMethod) → get_or (room_rows m) (room_place m) no_method ≡ entry_of_method m
placed (Objects m) = refl
placed (Exceptions m) = refl
placed (Utilities m) = refl
placed (System m) = refl
placed (Aids m) = refl
placed (Pins m) = refl
placed (Applets m) = refl
placed (Apdus m) = refl
placed (Events m) = refl
placed (Engines m) = refl
placed (Keys m) = refl
placed (KeyInterfaces m) = refl
placed (Ciphers m) = refl
placed (RsaKeys m) = refl
placed (EcKeys m) = refl
placed (RsaInterfaces m) = refl
placed (EcInterfaces m) = refl
placed (KeyPairs m) = refl

pub bounds-room_rows-room_place : goal.bounds-room_rows-room_place
bounds-room_rows-room_place c =
    let rows = c.room_rows.result.now in
    let many : length rows ≡ length (room_rows c.args.self) = sym (length-map rows method_value) ∙ ap length c.room_rows.ensures in
    omega (arith, c.room_place.ensures, room_places c.args.self, many)

pub returns : goal.returns
returns c =
    sym (get_or-map method_value c.room_rows.result.now c.room_place.result _ no_method (bounds-room_rows-room_place c))
    ∙ ap (λ l. get_or l c.room_place.result no_method) c.room_rows.ensures
    ∙ ap (λ (n : ℕ). get_or (room_rows c.args.self) n no_method) c.room_place.ensures ∙ placed c.args.self
