use Rattle.opening.proofs.Listing.{columns_list_of, columns_exchanged, legal_exchanged, refused_exchanged, exchanged_twice}
use Rattle.opening.proofs.laws.output_lists_stand.Goals as goal

pub returns : goal.returns
returns c = record { made = columns_list_of; columns = columns_exchanged; legal = legal_exchanged; refused = refused_exchanged; twice = exchanged_twice }
