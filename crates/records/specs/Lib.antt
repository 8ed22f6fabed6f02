-- Records of operations that live on several modules (02, (e)), over the numbers of a lent array. What a call replies and leaves is said by
-- `Rattle.rules.specs.Records`; here stands how that is held in numbers, and that the code's steps are the specification's.
pub mod Model
pub mod NumberLaws
pub mod FindLaws
pub mod CallLaws
