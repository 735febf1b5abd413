-- The records of the Class component, and where they stand.
use Rattle.std.specs.Prelude.{ℕ, List, [], ◌∷◌}
use Rattle.jc_cap.specs.declared.class_records.ClassRecord.{ClassRecord}

-- a record, and its offset in the info
pub record RecordAt : Type 0 where
  pub offset : ℕ
  pub contents : ClassRecord

abbrev pub offsets_of : List RecordAt → List ℕ
offsets_of [] = []
offsets_of (r ∷ rs) = r.offset ∷ offsets_of rs

abbrev pub contents_of : List RecordAt → List ClassRecord
contents_of [] = []
contents_of (r ∷ rs) = r.contents ∷ contents_of rs
