-- What the checks of an image and of a role buffer rest on: sums that are counted in the bytes, and the room that the words need. Assumes nothing.
use Rattle.std.proofs.Common.{◌≡◌, ℕ, ◌*◌, ◌/◌, ◌<◌, ◌≤◌, List, length, sym, arith, le-ltb, lt-ltb}
use Rattle.std.proofs.Math.Option.{none}
use Rattle.roles_spec.specs.Table.{rows}
use Rattle.roles_spec.specs.Refusals.{refuse, refuse_if, or_else, word_total, image_refusal, roles_refusal}
use Rattle.roles_spec.proofs.TableLaws.{length_rows}
use Rattle.roles_spec.proofs.RefusalLaws.{image_kept}
use Rattle.roles.proofs.CountLaws.{word_fields}

-- the rows and their words, as the code counts them
pub ruleset image_counts = (length_rows, word_fields)

-- the words of an image that is not refused need 8 bytes each
module _ (table words : List ℕ) (room : ℕ) (image : none ≡ image_refusal table words) where
  words_stated : length words ≡ 4 * word_total (rows table)
  words_stated = (image_kept table words (sym image)).word_count

  pub roles_too_short : room / 8 < length words / 4 → refuse 7 0 ≡ roles_refusal table words room
  unfolding roles_refusal or_else refuse_if
  roles_too_short h = let less : room < 8 * word_total (rows table) = omega (arith, words_stated) in rw (← image, lt-ltb _ _ less)

  pub fits_roles : length words / 4 ≤ room / 8 → none ≡ roles_refusal table words room
  unfolding roles_refusal or_else refuse_if
  fits_roles h = let enough : 8 * word_total (rows table) ≤ room = omega (arith, words_stated) in rw (← image, le-ltb _ _ enough)
