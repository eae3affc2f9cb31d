-- A profile: which rows it admits, and what it says of elements and of levels.
-- Assumes nothing.
use Rattle.rows.specs.RowSets.{RowSet, rows_of}
use Rattle.rows.specs.declared.profile.ProfileName.{ProfileName}
use Rattle.elements.specs.Data.{ElementProfile, element_profile}
use Rattle.levels.specs.Profile.{LevelProfile, level_profile}
use Rattle.gate.specs.declared.how.How.{How}

pub record Profile : Type 0 where
  pub rows : RowSet
  pub elements : ElementProfile
  pub levels : LevelProfile

-- the profile of that name: of nonconformance reports, or of storage-quality replies
abbrev pub profile_named : ProfileName → Profile
profile_named name = record { rows = rows_of name; elements = element_profile name; levels = level_profile name }

-- the profile by which a transaction is read
abbrev pub profile_of : How → Profile
profile_of how = profile_named how.profile
