-- Worked values: dates and times of document 01's cases W11 and W12, and others. Those of type R stand in NumberCases.
-- Assumes nothing.
use mathlib.Core.Path.{◌≡◌, refl}
use mathlib.Core.Bool.{true, false}
use Rattle.text.specs.Bytes.{bytes}
use Rattle.types.specs.Types.{days_in, is_date, is_time, is_id, number_of, fits}
use Rattle.types.specs.declared.kind.Kind.TheVariants.{Set842}

-- the 29th of February in a leap year, and in another
leap_day : is_date (bytes "20240229") ≡ true
unfolding is_date days_in
leap_day = refl

no_leap_day : is_date (bytes "20230229") ≡ false
unfolding is_date days_in
no_leap_day = refl

century_not_leap : is_date (bytes "19000229") ≡ false
unfolding is_date days_in
century_not_leap = refl

year_zero_leap : is_date (bytes "00000229") ≡ true
unfolding is_date days_in
year_zero_leap = refl

no_month_13 : is_date (bytes "20241301") ≡ false
unfolding is_date days_in
no_month_13 = refl

-- four digits are a time, five are not, and the seventh and eighth are free
four_digits : is_time (bytes "2359") ≡ true
unfolding is_time
four_digits = refl

five_digits : is_time (bytes "23595") ≡ false
unfolding is_time
five_digits = refl

eight_digits : is_time (bytes "23595999") ≡ true
unfolding is_time
eight_digits = refl

no_hour_24 : is_time (bytes "2400") ≡ false
unfolding is_time
no_hour_24 = refl

-- ST01, a small letter, and a number of eleven digits
set_842 : fits Set842 3 3 (bytes "842") ≡ true
unfolding fits
set_842 = refl

set_843 : fits Set842 3 3 (bytes "843") ≡ false
unfolding fits
set_843 = refl

small_letter : is_id (bytes "Rp") ≡ false
small_letter = refl

ten_digits : number_of (bytes "0000000012") ≡ 12
unfolding number_of
ten_digits = refl

eleven_digits : number_of (bytes "00000000012") ≡ 0
unfolding number_of
eleven_digits = refl
