-- Worked rows of the reading of floats.
use Rattle.std.specs.Prelude.{[], ◌∷◌, refl}
use Rattle.ion_text_in.proofs.ReadingText.{row, float_row, float_row_within, AreRead, read_within}

-- where they are read
floats_are_read : AreRead (
    float_row "a float" "1.5e0" "0 1.5e0; done"
    ∷ float_row "minus zero" "a::-0e0" "3/0 'a'@0::-0e0; done"
    ∷ float_row "underscores" "[1_0.2_5E+1]" "0 [; 1/0 1.025e2; 11/0 end; done"
    ∷ float_row "words" "[nan,+inf,-inf]" "0 [; 1/0 nan; 5/0 +inf; 10/0 -inf; 14/0 end; done"
    ∷ float_row "the least" "5e-324 2e-324" "0 5e-324; 7 0e0; done"
    ∷ float_row "past the greatest" "1.7976931348623157e308 1e400" "0 1.7976931348623157e308; Range at 23"
    ∷ float_row "underscores in the exponent" "1e1_0" "BadToken at 0"
    ∷ float_row "first zero" "01e0" "BadToken at 0"
    ∷ float_row "nan as field" "{nan:1}" "0 {; BadToken at 1"
    ∷ float_row "nan before colons" "nan::1" "0 nan; BadToken at 3"
    ∷ float_row "nan in quotes" "'nan'" "0 'nan'@0; done"
    ∷ float_row "no infinity" "(+infx)" "0 (; 1/0 '+'@1; 2/0 'infx'@2; 6/0 end; done"
    ∷ float_row_within 64 4 "limit" "1e10 1.5e0" "0 1e10; ScalarLimit at 5"
    ∷ []
    )
unfolding read_within
floats_are_read = refl

-- where they are not
floats_are_refused : AreRead (
    row "past the greatest, refused as a float" "1e400" "Float at 0"
    ∷ row "null of the type" "null.float" "0 null.float; done"
    ∷ row "fault of the shape first" "1e1_0" "BadToken at 0"
    ∷ []
    )
unfolding read_within
floats_are_refused = refl
