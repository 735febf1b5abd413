-- What the linker gets of a package.
use Rattle.std.specs.Prelude.{ℕ, List, [], take}
use Rattle.std.specs.Result.{result_unwrap_or}
use Rattle.jc_cap.specs.Envelope.{info_at}
use Rattle.jc_cap.specs.Tags.{method_tag}
use Rattle.jc_cap.specs.declared.texts.PackageBytes.{PackageBytes}
use Rattle.jc_cap.specs.Contents.{PackageContents}
use Rattle.jc_linker.specs.Outlines.{components_of}
use Rattle.jc_linker.specs.Values.{LinkerComponents}

-- the info of a component with this tag, which has 65,535 bytes at most: nothing, where the bytes are no such component
abbrev pub info_of_component : ℕ → List ℕ → List ℕ
info_of_component tag text = take 65535 (result_unwrap_or (info_at tag text) [])

-- what the linker gets of a package that is put together of these components, which say this
abbrev pub linker_view : PackageBytes → PackageContents → LinkerComponents
linker_view t c = components_of (info_of_component method_tag t.methods) c
