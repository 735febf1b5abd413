-- What is reported of what a cut left: the answers of a probe and, where they are asked for, the cells that changed.
use Rattle.std.specs.Prelude.{ℕ, ◌≡◌, ◌++◌, Bool, true, false, List, Option, Some, None}
use Rattle.jc_objects.specs.ImageObjects.{AreObjectsOf}
use Rattle.jc_objects.specs.declared.image_objects.ImageObjects.{ImageObjects}
use Rattle.jc_objects.specs.Changes.{changes_text}
use Rattle.jcard_outcomes.specs.declared.standing.Left.{Left}

-- these objects, if any, are those of an image
abbrev pub AreOfImage : Option ImageObjects → Type 0
AreOfImage None = Unit {0}
AreOfImage (Some o) = (words : List ℕ) × AreObjectsOf words o

-- the objects that stood before a command, where changes are asked for
abbrev pub AreObjectsAsked : Bool → Left → Option ImageObjects → Type 0
AreObjectsAsked false before objects = objects ≡ None
AreObjectsAsked true before objects = (o : ImageObjects) × (objects ≡ Some o) × AreObjectsOf before.words.items o

-- the answers, and after them what changed since these objects stood
abbrev pub IsTold : Option ImageObjects → Left → List ℕ → Type 0
IsTold None left text = text ≡ left.answers.items
IsTold (Some o) left text = text ≡ left.answers.items ++ changes_text o left.words.items
